-- Acceptance without order, and the tidy image.

-- Believed: theorems or the contracts of exported functions are stated in these.
pub mod Groups
pub mod Same
pub mod Tidy
pub mod TidyCases
pub mod Arranged
pub mod Order
pub mod OrderCases
-- Computed: facts at small values; a definition that is changed shows here.
pub mod Unmoved
