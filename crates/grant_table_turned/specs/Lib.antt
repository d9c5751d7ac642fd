-- Tables of bits turned and the calls on them, and what the contracts of their code say.

-- Believed: theorems or the contracts of exported functions are stated in these.
pub mod Turned
pub mod Calls
-- Helpers of code and proofs: no theorem and no exported contract is stated in these.
pub mod Columns
