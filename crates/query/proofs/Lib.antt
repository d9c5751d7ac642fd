-- The laws of sets by their members, and those behind what roles carry.
pub mod Members
pub mod Walks
pub mod Turned
pub mod Marks
pub mod Lacking
pub mod Meanings
pub mod Reach
