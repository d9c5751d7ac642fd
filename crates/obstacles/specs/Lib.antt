-- What the contract of an obstacle says, beside the model's definitions.

-- Helpers of code and proofs: no theorem and no exported contract is stated in these.
pub mod Asking
