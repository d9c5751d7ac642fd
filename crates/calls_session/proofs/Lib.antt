-- The laws that the proofs of the calls on a session cite.
pub mod Steps
