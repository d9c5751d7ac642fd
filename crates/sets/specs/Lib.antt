-- What the contracts of sets in machine words say, beside the model's definitions.

-- Believed: theorems or the contracts of exported functions are stated in these.
pub mod Words
-- Helpers of code and proofs: no theorem and no exported contract is stated in these.
pub mod Members
pub mod Walks
