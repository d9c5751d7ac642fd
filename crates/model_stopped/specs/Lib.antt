-- The stopped call: what it is, small facts about it, and listed cases.

-- Believed: theorems or the contracts of exported functions are stated in these.
pub mod Stopped
pub mod StoppedCases
-- Computed: facts at small values; a definition that is changed shows here.
pub mod Facts
