-- What the contracts of the judgement by loops and by reach say, beside the model's definitions.

-- Helpers of code and proofs: no theorem and no exported contract is stated in these.
pub mod Reach
pub mod Loops
