-- The laws behind the searches' contracts.
pub mod Between
pub mod Carried
pub mod Costs
pub mod Returns
pub mod Turns
pub mod Loops
