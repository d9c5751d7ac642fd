-- What the contracts of counts kept in words say.

-- Helpers of code and proofs: no theorem and no exported contract is stated in these.
pub mod Counted
