-- The counts as they are kept while lines are answered.

-- Believed: theorems or the contracts of exported functions are stated in these.
pub mod Counting
