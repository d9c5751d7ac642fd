-- The lines of an input that comes in chunks, and what the functions over a chunk do.

-- Believed: theorems or the contracts of exported functions are stated in these.
pub mod Kept
pub mod Joined
-- Helpers of code and proofs: no theorem and no exported contract is stated in these.
pub mod Buffers
