-- The laws that the proofs of one line's move cite.
pub mod OneLine
