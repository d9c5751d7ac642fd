-- The call that a parsed line is, by its form.
pub mod CallLaws
