-- The laws behind a permission that roles lack.
pub mod Lacks
pub mod Carriers
pub mod Within
