-- The laws of digits, numerals and bounds.
pub mod NumeralLaws
pub mod FillLaws
