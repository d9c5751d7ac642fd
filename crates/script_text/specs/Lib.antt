-- What the contracts of the text of an output line say, beside the script's definitions.

-- Helpers of code and proofs: no theorem and no exported contract is stated in these.
pub mod Writing
