-- The laws of splices and of numbers in bytes.
pub mod Splices
pub mod Numbers
