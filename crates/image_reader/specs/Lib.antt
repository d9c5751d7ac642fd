-- What the contracts of the reader say, beside the model's definitions.

-- Helpers of code and proofs: no theorem and no exported contract is stated in these.
pub mod Places
pub mod Readers
