-- The output line of an answer.
pub mod LineLaws
