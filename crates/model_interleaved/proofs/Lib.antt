-- The laws of calls side by side, and the theorems over them.
pub mod AloneProof
pub mod LinesProof
pub mod InterleavedProof
pub mod OrderProof
pub mod Theorems
