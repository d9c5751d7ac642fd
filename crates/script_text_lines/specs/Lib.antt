-- The hexadecimal digits of the number that bytes make.

-- Helpers of code and proofs: no theorem and no exported contract is stated in these.
pub mod Pairs
