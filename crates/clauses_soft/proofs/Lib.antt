-- The laws of what objectives want, and of how much it weighs.
pub mod WantLaws
pub mod SoftSizes
