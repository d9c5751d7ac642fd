-- The laws that the proofs of an ask's parts cite.
pub mod Asks
pub mod Rows
