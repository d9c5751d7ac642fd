-- What the contracts of the image's code say, beside the model's definitions.

-- Helpers of code and proofs: no theorem and no exported contract is stated in these.
pub mod Taken
pub mod Ending
pub mod Front
