-- What the contracts of lines of clauses say, beside the model's definitions.

-- Helpers of code and proofs: no theorem and no exported contract is stated in these.
pub mod Lines
pub mod Literals
