-- The laws of the clauses of an ask, and the theorems over them.
pub mod Meant
pub mod ClauseLaws
pub mod ClauseProof
pub mod ClauseWeights
pub mod DimacsProof
pub mod DimacsSizes
pub mod RoomProof
pub mod ReadingProof
pub mod CalledProof
pub mod Theorems
