-- The laws that the proofs of the loop call's code use.
pub mod Looping
pub mod Showing
