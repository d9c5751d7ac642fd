-- The laws of the closed grant table, and the theorem.
pub mod TableProof
pub mod TableCallProof
pub mod TableRefusalsProof
pub mod TableCasesProof
pub mod Theorems
