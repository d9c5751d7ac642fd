-- What the contracts of 64 words turned say.

-- Helpers of code and proofs: no theorem and no exported contract is stated in these.
pub mod Stages
