-- Whether roles meet the reduced exclusions, over the model's definitions.

-- Helpers of code and proofs: no theorem and no exported contract is stated in these.
pub mod Met
pub mod Reduction
