-- The listed cases of the model, by computation.
pub mod Computing
pub mod Cases
pub mod TextedProof
pub mod ApartProof
pub mod Theorems
