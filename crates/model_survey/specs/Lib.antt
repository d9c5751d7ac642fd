-- What the survey prints, whole and in two parts.

-- Believed: theorems or the contracts of exported functions are stated in these.
pub mod Survey
pub mod Parts
