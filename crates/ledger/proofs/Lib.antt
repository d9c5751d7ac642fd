-- The laws that the proofs of the functions cite.
pub mod All
pub mod Named
pub mod ByHistory
pub mod Soundness
pub mod Places
