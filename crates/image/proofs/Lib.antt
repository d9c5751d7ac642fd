-- The laws that the proofs of the image's code use.
pub mod Turns
pub mod Judged
pub mod Last
