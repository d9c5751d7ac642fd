-- What the contracts of the roles that no limit bars say.

-- Helpers of code and proofs: no theorem and no exported contract is stated in these.
pub mod Left
