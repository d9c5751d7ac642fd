-- The laws that the proofs of the tables' code use.
pub mod Fills
pub mod Places
pub mod Last
