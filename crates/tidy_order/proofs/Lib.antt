-- The laws that the proofs of the sorting use.
pub mod Placing
pub mod Derived
