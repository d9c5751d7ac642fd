-- The laws that the proofs of the code that counts and writes words use.
pub mod Writing
pub mod Members
pub mod Turns
pub mod Limiting
pub mod Wholes
