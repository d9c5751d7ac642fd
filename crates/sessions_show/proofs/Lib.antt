-- The cases of a show and of an explain.
pub mod Shown
pub mod Explained
