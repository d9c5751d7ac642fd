-- What the register of refusals says.

-- Believed: theorems or the contracts of exported functions are stated in these.
pub mod Bits
pub mod Ledger
pub mod Entries
pub mod Faults
pub mod Sound
pub mod Met
pub mod Card
pub mod Calls
pub mod Returns
pub mod AsCheck
pub mod Loops
pub mod Moves
pub mod Changes
