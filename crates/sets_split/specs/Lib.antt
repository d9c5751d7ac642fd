-- What the contract of a permission's place among four words says.

-- Helpers of code and proofs: no theorem and no exported contract is stated in these.
pub mod Split
