-- What the contracts of the code that counts and writes words say, beside the definition of the tidy image.

-- Helpers of code and proofs: no theorem and no exported contract is stated in these.
pub mod Buffers
pub mod Tables
pub mod Whole
