-- Believed: theorems or the contracts of exported functions are stated in these.
pub mod Ward
pub mod ObstacleCases
pub mod Refusals
pub mod Returned
pub mod Texted
pub mod Apart
pub mod MoveCases
