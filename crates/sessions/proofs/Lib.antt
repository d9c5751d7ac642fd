-- The laws that the proofs of the calls cite.
pub mod FirstSteps
pub mod SessionTests
pub mod Filled
pub mod Reasons
