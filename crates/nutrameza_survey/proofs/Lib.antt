-- The counts at the start.
pub mod Zeros
