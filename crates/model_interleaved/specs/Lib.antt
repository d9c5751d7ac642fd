-- What calls on one ledger may do side by side, and two runs that show where they may not.

-- Believed: theorems or the contracts of exported functions are stated in these.
pub mod Beside
pub mod OrderMatters
