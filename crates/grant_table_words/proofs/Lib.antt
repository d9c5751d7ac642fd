-- The laws of sets by their tests, of shifted words, and of exchanges of bits between words.
pub mod SetTests
pub mod Shifts
pub mod Exchanges
pub mod Blocks
pub mod Transposes
