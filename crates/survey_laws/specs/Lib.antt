-- Listed cases of the survey, and that it follows image order.

-- Believed: theorems or the contracts of exported functions are stated in these.
pub mod Cases
pub mod Order
