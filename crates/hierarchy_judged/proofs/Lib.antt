-- The laws that the proofs of the judgement by loops and by reach use.
pub mod Lowest
pub mod Judging
pub mod Reaching
