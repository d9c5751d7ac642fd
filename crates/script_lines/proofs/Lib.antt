-- The laws of words and of a line cut into them.
pub mod WordLaws
