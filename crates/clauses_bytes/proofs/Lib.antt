-- The laws of texts in a buffer, of decimals and of packed texts.
pub mod WritingLaws
pub mod RoomLaws
pub mod PackedLaws
