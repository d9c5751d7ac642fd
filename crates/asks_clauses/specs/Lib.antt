-- What a host gets from a clause text.

-- Helpers of code and proofs: no theorem and no exported contract is stated in these.
pub mod Tells
