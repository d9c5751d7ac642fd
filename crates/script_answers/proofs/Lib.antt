-- The laws of a run over a chunk of the input, and what a whole run prints.
pub mod Steps
pub mod Transcript
pub mod Theorems
