-- The words that the code has stand for an ask under a policy.
-- Assumes nothing.
use Rattle.std.specs.Prelude.{◌≡◌, List, ℕ, ◌<◌, get_or, length}
use Rattle.model.specs.declared.Exclusion.{Exclusion}
use Rattle.model.specs.declared.Line.{Line}
use Rattle.model.specs.Policy.{Meaning}
use Rattle.model.specs.Reduced.{stays, mask_of, reduced_n}

-- an exclusion, reduced for session k of the line, by the members that are not counted yet and by what is left of n
pub record Reduced (l : Line) (k : ℕ) (x : Exclusion) (mask n : ℕ) : Type 0 where
  pub members : mask ≡ mask_of x.members (stays l k x.kind)
  pub reduced : n ≡ reduced_n x.members x.n (stays l k x.kind)

-- each role carries what its row says, and each exclusion is reduced
pub record Stands (m : Meaning) (l : Line) (k : ℕ) (row : ℕ → ℕ) (masks ns : List ℕ) (count : ℕ) : Type 0 where
  pub carried : (r : ℕ) → r < m.roles → row r ≡ get_or m.carried r 0
  pub all : count ≡ length m.exclusions
  pub reduced : (d : Exclusion) (i : ℕ) → i < length m.exclusions → Reduced l k (get_or m.exclusions i d) (get_or masks i 0) (get_or ns i 0)
