-- The laws behind an exclusion that stands in the way.
pub mod AnyOrder
pub mod Firsts
pub mod Lefts
pub mod Tells
