-- The laws of histories and of the stopped call, and the theorems over them.
pub mod EndLaws
pub mod Strangers
pub mod HistoriesProof
pub mod StoppedProof
pub mod RegisterProof
pub mod Cases
pub mod ApartProof
pub mod Theorems
