-- What the functions that write exclusions need.

-- Believed: theorems or the contracts of exported functions are stated in these.
pub mod Writing
