-- The law that the proof of the short ask cites.
pub mod ShortAsks
