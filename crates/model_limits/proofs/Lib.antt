-- The laws of limits on roles, and the theorems over them.
pub mod LimitTable
pub mod OneLine
pub mod CardProof
pub mod ElevenProof
pub mod ApartProof
pub mod Theorems
