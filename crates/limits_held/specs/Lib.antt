-- What the contracts of counting the sessions of all users say.

-- Helpers of code and proofs: no theorem and no exported contract is stated in these.
pub mod Held
