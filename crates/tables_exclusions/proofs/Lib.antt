-- The laws that the proofs of the code that reads exclusions use.
pub mod Members
