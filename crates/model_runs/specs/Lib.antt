-- What is claimed of runs where the policy changes while people work.

-- Believed: theorems or the contracts of exported functions are stated in these.
pub mod Ends
pub mod Histories
pub mod Register
pub mod Apart
