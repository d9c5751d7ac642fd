-- The answer of a query, and what the query's inputs are to be: what the policy, the line and the session give.
-- Assumes nothing.
use Rattle.std.specs.Prelude.{◌≡◌, Bool, true, ℕ, eqb, Option, Some, None}
use Rattle.std.proofs.Math.Option.{Option as Choice, none, some}
use Rattle.model.specs.declared.Line.{Line}
use Rattle.model.specs.Tests.{pick}
use Rattle.model.specs.Sets.{within}
use Rattle.model.specs.Policy.{Meaning}
use Rattle.model.specs.Line.{exclusions_met, put_in}
use Rattle.query_rank.specs.declared.Best.{Best}
use Rattle.query.specs.Carry.{Carry}

-- the answer as a choice of the model
abbrev pub answered : Option ℕ → Choice ℕ
answered None = none
answered (Some s) = some s

-- the key of no set, above that of any
abbrev pub no_key : ℕ
no_key = 1048576

-- what a search starts from
abbrev pub no_best : Best
no_best = record { key = no_key; roles = 0 }

-- the roles of the best set
unfoldable pub answer_of : Best → Option ℕ
answer_of a = pick (eqb a.key no_key) None (Some a.roles)

-- the roles that the user may activate, what each of them carries, and the sets of them that leave every exclusion met
-- once put in for session k
pub record Given (m : Meaning) (l : Line) (k authorized : ℕ) (row : ℕ → ℕ) (met : ℕ → Bool) : Type 0 where
  pub own : m.authorized ≡ authorized
  pub carry : Carry m authorized row
  pub exclusions : (s : ℕ) → within s authorized ≡ true → exclusions_met m (put_in k s l) ≡ met s
