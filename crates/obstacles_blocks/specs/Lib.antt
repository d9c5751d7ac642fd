-- What the contracts of an exclusion that stands in the way say, beside the model's definitions.

-- Helpers of code and proofs: no theorem and no exported contract is stated in these.
pub mod Blocking
pub mod Firsts
