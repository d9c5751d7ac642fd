-- The laws that the proofs of the code that reads the tables' rows use.
pub mod Carrying
pub mod Holders
pub mod Explaining
