-- What is claimed of the clauses of an ask and of their text.

-- Believed: theorems or the contracts of exported functions are stated in these.
pub mod Premises
pub mod Satisfied
pub mod Texts
pub mod Reading
pub mod Called
