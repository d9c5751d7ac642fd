-- The laws that the proof of a move cites.
pub mod Moving
