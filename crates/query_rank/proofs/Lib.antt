-- The laws behind the rank of role sets.
pub mod Numbers
pub mod Ranks
pub mod Bounds
