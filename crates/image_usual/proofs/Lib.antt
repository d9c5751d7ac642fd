-- The laws that the proofs of the usual words' code use.
pub mod Words
pub mod Runs
pub mod Joining
