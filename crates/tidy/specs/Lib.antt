-- What the contract of the call says, beside the definition of the tidy image.

-- Helpers of code and proofs: no theorem and no exported contract is stated in these.
pub mod Whole
