-- The laws of texts in a buffer and of numerals.
pub mod TextLaws
