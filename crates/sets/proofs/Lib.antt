-- The laws of sets in machine words.
pub mod Chosen
pub mod Digits
pub mod Machine
pub mod Powers
pub mod Taken
pub mod Unions
