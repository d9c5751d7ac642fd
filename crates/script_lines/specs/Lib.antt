-- What the functions that cut a line find.

-- Helpers of code and proofs: no theorem and no exported contract is stated in these.
pub mod Cutting
