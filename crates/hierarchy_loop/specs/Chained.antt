-- What the loop call is given, and the levels that it fills.
-- Assumes nothing.
use Rattle.std.specs.Prelude.{◌≡◌, List, ℕ, ◌<◌, get_or}
use Rattle.model.specs.Policy.{Policy}
use Rattle.model.specs.Ranges.{InRange}
use Rattle.model.specs.Loop.{level}

-- the first n rows are the levels below n of role r
abbrev pub Levels : List ℕ → ℕ → ℕ → List ℕ → Type 0
Levels juniors r n rows = (k : ℕ) → k < n → get_or rows k 0 ≡ level juniors r k

-- the table of direct juniors and the number of roles are those of a policy in range
pub record Ranged (juniors : List ℕ) (roles : ℕ) : Type 0 where
  pub policy : Policy
  pub range : InRange policy
  pub juniors_are : juniors ≡ policy.juniors
  pub roles_are : policy.head.roles ≡ roles
