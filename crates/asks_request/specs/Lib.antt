-- The refusals of an ask before the search, beside the model's definitions.

-- Helpers of code and proofs: no theorem and no exported contract is stated in these.
pub mod Refusals
pub mod Wishes
