-- The laws that the proofs of the stopped call cite.
pub mod Telling
