-- What the functions that write lines of figures write.

-- Helpers of code and proofs: no theorem and no exported contract is stated in these.
pub mod Figures
