-- The laws behind an ask's bounds and refusals.
pub mod PermissionSets
pub mod Requests
pub mod Refused
