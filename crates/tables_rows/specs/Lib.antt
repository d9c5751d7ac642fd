-- What the contracts of the code that reads the tables' rows say, beside the model's definitions.

-- Helpers of code and proofs: no theorem and no exported contract is stated in these.
pub mod Carried
pub mod Holding
pub mod Told
