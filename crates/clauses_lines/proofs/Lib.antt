-- The laws of lines of clauses.
pub mod LineLaws
