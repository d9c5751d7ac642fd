-- The laws behind a query's answer.
pub mod Solved
