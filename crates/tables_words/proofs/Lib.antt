-- The laws that the proofs of the code that takes words in use.
pub mod Steps
