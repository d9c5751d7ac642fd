-- The listed examples, and laws of the script: an answer's number is small, a readable line is short.
pub mod Computing
pub mod ExamplesProof
pub mod ReplyLaws
pub mod LengthLaws
pub mod Numerals
pub mod Theorems
