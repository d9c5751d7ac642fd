-- The laws behind the reduced exclusions.
pub mod MetLaws
pub mod Reductions
