-- The laws that the proofs of the calls on an image cite.
pub mod Images
pub mod Loops
pub mod Tidying
pub mod TableCalls
