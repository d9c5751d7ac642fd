-- What a line that is not sound tells an ask.

-- Helpers of code and proofs: no theorem and no exported contract is stated in these.
pub mod Lines
