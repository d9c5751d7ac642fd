-- The laws that the proofs of counts kept in words cite.
pub mod Planes
