-- The laws that the proofs of seniority's code use.
pub mod Closing
pub mod Naming
pub mod Filling
pub mod Lowest
