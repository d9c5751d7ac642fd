-- The closed grant table in bytes, and the call that gives it.

-- Believed: theorems or the contracts of exported functions are stated in these.
pub mod Table
pub mod TableCalls
pub mod TableCases
