-- What a host gets of an obstacle.

-- Helpers of code and proofs: no theorem and no exported contract is stated in these.
pub mod Telling
