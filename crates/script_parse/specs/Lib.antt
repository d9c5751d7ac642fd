-- The call that a parsed line is.

-- Helpers of code and proofs: no theorem and no exported contract is stated in these.
pub mod Reading
