-- Computed: a fact that rests on a theorem; a definition that is changed shows here.
pub mod Exclusions
