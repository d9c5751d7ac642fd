-- What the contracts of the sorting say, beside the order of exclusions.

-- Helpers of code and proofs: no theorem and no exported contract is stated in these.
pub mod Placed
