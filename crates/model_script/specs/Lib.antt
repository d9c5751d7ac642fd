-- The definitions of the script, and listed examples of it.

-- Believed: theorems or the contracts of exported functions are stated in these.
pub mod Script
pub mod Examples
