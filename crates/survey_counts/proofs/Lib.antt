-- The laws of counting, and of the lines of the counts.
pub mod CountLaws
pub mod CountLines
