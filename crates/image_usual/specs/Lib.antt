-- What the contracts of the usual words' code say, beside the model's definitions.

-- Helpers of code and proofs: no theorem and no exported contract is stated in these.
pub mod Usual
pub mod Granting
