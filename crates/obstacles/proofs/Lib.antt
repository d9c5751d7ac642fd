-- The laws behind the first obstacle that holds.
pub mod FourKinds
