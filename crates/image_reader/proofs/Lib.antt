-- The laws that the proofs of the reader's code use, and what a walk over the exclusions reads.
pub mod PlaceLaws
pub mod ExclusionLaws
pub mod Walk
