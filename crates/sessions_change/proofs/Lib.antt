-- The cases of an open and of a close.
pub mod Opens
pub mod Closes
