-- How role sets rank, by objectives.

-- Helpers of code and proofs: no theorem and no exported contract is stated in these.
pub mod Ranks
pub mod Objectives
