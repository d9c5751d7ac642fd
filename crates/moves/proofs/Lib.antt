-- The laws that the proofs of moves cite.
pub mod AllLines
