-- What results say as numbers.

-- Believed: theorems or the contracts of exported functions are stated in these.
pub mod Numbers
