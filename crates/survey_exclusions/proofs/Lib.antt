-- The laws of the lines of exclusions, and that their figures fit 64 bits.
pub mod Fit
pub mod ExclusionLaws
