-- A walk over the members of a set in a machine word.
-- Assumes nothing.
use Rattle.std.specs.Prelude.{◌≡◌, ◌<◌, ℕ, Option, Some, None}
use Rattle.sets.specs.declared.Bits.{Bits}
use Rattle.sets.specs.Members.{without, Lowest}

-- the lowest of the members to come is k, and the others are still to come
pub record Taken (left k less : ℕ) : Type 0 where
  pub some : 0 < left
  pub lowest : Lowest left k
  pub rest : less ≡ without left k

-- a step of the walk: the lowest member to come is given, or there is none
abbrev pub TakesLowest : Bits → Option ℕ → Bits → Type 0
TakesLowest old None new = (old.left ≡ 0) × (new.left ≡ 0)
TakesLowest old (Some k) new = Taken old.left k new.left
