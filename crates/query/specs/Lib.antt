-- What roles carry, over the model's definitions.

-- Believed: theorems or the contracts of exported functions are stated in these.
pub mod Carry
