-- What the contracts of the hard clauses say, beside the model's definitions.

-- Helpers of code and proofs: no theorem and no exported contract is stated in these.
pub mod Members
pub mod Parts
pub mod Sizes
