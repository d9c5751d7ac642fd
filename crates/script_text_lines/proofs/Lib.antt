-- The laws of the text of an output line.
pub mod LineLaws
