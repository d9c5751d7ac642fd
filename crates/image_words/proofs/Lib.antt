-- The laws that the proofs of walks over an image's words use.
pub mod Folds
pub mod Others
pub mod Scans
