-- The answers that the survey counts, and that the counts add up.
pub mod Answers
pub mod AddUp
