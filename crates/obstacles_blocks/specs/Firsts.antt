-- Whether a search ends with a set, and at which of the exclusions it begins to end without one.
-- Assumes nothing.
use Rattle.std.specs.Prelude.{◌≡◌, Bool, true, false, List, ℕ, ◌+◌, ◌<◌}
use Rattle.sets.specs.Words.{value}
use Rattle.query.specs.Carry.{rows_of}
use Rattle.query_rank.specs.Ranks.{Between}
use Rattle.query_reduced.specs.declared.reduced.ReducedExclusion.{ReducedExclusion}
use Rattle.query_reduced.specs.Met.{reduced_met}
use Rattle.search_steps.specs.Search.{Task, serves}

-- b says whether some set between serves
pub record Finds (t : Task) (chosen free : ℕ) (b : Bool) : Type 0 where
  pub is : b ≡ true → (s : ℕ) × Between chosen free s × (serves t s ≡ true)
  pub none : b ≡ false → (s : ℕ) → Between chosen free s → serves t s ≡ true → ⊥

-- what is searched under these exclusions
abbrev pub under : List (List ℕ) → List ReducedExclusion → List ℕ → Task
under rows xs lower = record { row = rows_of rows; lower = value lower; met = reduced_met xs; first = 0; second = 0 }

-- of n exclusions the first j leave a set, and the first j + 1 leave none
pub record Ends (found : ℕ → Bool → Type 0) (n j : ℕ) : Type 0 where
  pub inside : j < n
  pub leaves : found j true
  pub stops : found (j + 1) false
