-- What the tables of a policy hold.

-- Helpers of code and proofs: no theorem and no exported contract is stated in these.
pub mod Held
