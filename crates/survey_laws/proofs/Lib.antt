-- The theorems of the survey, and their arguments.
pub mod Theorems
pub mod RunProof
pub mod CasesProof
pub mod OrderProof
