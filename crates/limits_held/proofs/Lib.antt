-- The laws that the proofs of counting the sessions of all users cite.
pub mod Holding
