-- The laws of the members of sets as variables, and of the counters of exclusions.
pub mod CounterLaws
