-- What the functions that read numbers find.

-- Helpers of code and proofs: no theorem and no exported contract is stated in these.
pub mod Numbers
