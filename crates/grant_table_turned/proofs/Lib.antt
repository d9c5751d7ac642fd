-- The laws of rows of bytes, of tables turned, and the theorems.
pub mod Rows
pub mod Words
pub mod Parts
pub mod TurnProof
pub mod CallProof
pub mod RefusalsProof
pub mod Theorems
