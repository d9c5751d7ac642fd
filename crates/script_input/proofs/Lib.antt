-- The laws of lines in chunks, and that they are the lines of the input.
pub mod Steps
pub mod KeptLines
pub mod ChunksJoined
