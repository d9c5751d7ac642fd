-- The laws that the proofs of the roles that no limit bars cite.
pub mod Leaving
