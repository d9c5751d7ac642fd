-- What the functions of the program do on the way.

-- Believed: theorems or the contracts of exported functions are stated in these.
pub mod Buffers
