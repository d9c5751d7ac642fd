-- What users reach by a closed table, and the table of assigned roles made that of the roles that each user may
-- activate.
-- Assumes nothing.
use Rattle.std.specs.Prelude.{◌≡◌, Bool, true, false, not, List, ℕ, ◌^◌, ◌≤◌, ◌<◌, eqb, ltb, get_or}
use Rattle.std.proofs.Math.Option.{Option, none}
use Rattle.model.specs.Tests.{lowest, if_below}
use Rattle.model.specs.Sets.{has, count, union_at}
use Rattle.model.specs.Policy.{with_selves}

-- role r stands over another: its row is not empty
abbrev pub stands_over : List ℕ → ℕ → Bool
stands_over below r = not (eqb (get_or below r 0) 0)

-- of the roles of a set, those that stand over another are seniors
abbrev pub Over : List ℕ → ℕ → ℕ → Type 0
Over below seniors set = (r : ℕ) → has set r ≡ true → has seniors r ≡ false → get_or below r 0 ≡ 0

-- each row is a set of at most 16 of so many roles
abbrev pub Few : ℕ → List ℕ → Type 0
Few roles assigned = (u : ℕ) → (get_or assigned u 0 < 2 ^ roles) × (count 64 (get_or assigned u 0) ≤ 16)

-- what the roles assigned to user u reach
abbrev pub reach_at : List ℕ → List ℕ → ℕ → ℕ
reach_at below assigned u = union_at (with_selves below) (get_or assigned u 0)

-- it is more than 16 roles
abbrev pub wide_at : List ℕ → List ℕ → ℕ → Bool
wide_at below assigned u = ltb 16 (count 64 (reach_at below assigned u))

-- u is the lowest of so many users with more than 16, if there is one; else each row of the table has what its user
-- reaches
pub record Authorizes (below : List ℕ) (users : ℕ) (assigned : List ℕ) (u : Option ℕ) (authorized : List ℕ) : Type 0 where
  pub lowest_is : u ≡ if_below users (lowest (wide_at below assigned) 0 users)
  pub rows : u ≡ none → (v : ℕ) → v < users → get_or authorized v 0 ≡ reach_at below assigned v
