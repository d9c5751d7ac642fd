-- What the contracts of the table of exclusions say, beside the model's definitions.

-- Believed: theorems or the contracts of exported functions are stated in these.
pub mod Table
