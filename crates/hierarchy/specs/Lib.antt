-- What the contracts of seniority's code say, beside the model's definitions.

-- Helpers of code and proofs: no theorem and no exported contract is stated in these.
pub mod Upper
pub mod Names
pub mod Replies
