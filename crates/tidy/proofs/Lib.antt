-- The laws that the proof of the call uses.
pub mod Calls
