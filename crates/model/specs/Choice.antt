-- The choice of a role set (the User Authorization Query): which sets are admissible, and the best of them by the two
-- objectives.
-- Assumes nothing.
use Rattle.std.specs.Prelude.{Bool, true, false, ◌&&◌, List, [], ◌∷◌, ℕ, zero, suc, ◌-◌}
use Rattle.std.proofs.Math.Option.{Option, none, some}
use Rattle.model.specs.declared.Line.{Line}
use Rattle.model.specs.Tests.{earlier}
use Rattle.model.specs.Sets.{within, count, union_at, subsets}
use Rattle.model.specs.Policy.{Meaning}
use Rattle.model.specs.Line.{exclusions_met, put_in}

-- the permissions that the roles of s carry
unfoldable pub carried_by : Meaning → ℕ → ℕ
carried_by m s = union_at m.carried s

-- s holds roles that the user may activate, carries all of the lower bound and nothing outside the upper, and once put
-- in for session k leaves every exclusion met
unfoldable pub admissible : Meaning → Line → ℕ → ℕ → ℕ → ℕ → Bool
admissible m l k lower upper s =
    within s m.authorized && within lower (carried_by m s) && within (carried_by m s) upper && exclusions_met m (put_in k s l)

-- what an objective (01: aim) makes of a count, which is at most 256; the lower, the better: 0 is any, 1 the fewest, 2
-- the most
unfoldable pub cost : ℕ → ℕ → ℕ
cost zero n = 0
cost (suc zero) n = n
cost (suc (suc a)) n = 256 - n

unfoldable pub permission_cost : Meaning → ℕ → ℕ → ℕ
permission_cost m a s = cost a (count 256 (carried_by m s))

unfoldable pub role_cost : ℕ → ℕ → ℕ
role_cost b s = cost b (count 64 s)

-- s is better than t: by all permissions carried under the first objective, by roles under the second, by the lower set
-- number
unfoldable pub better : Meaning → ℕ → ℕ → ℕ → ℕ → Bool
better m a b s t = earlier (permission_cost m a s) (permission_cost m a t) (role_cost b s) (role_cost b t) s t

-- s, or what was best so far where that is better
unfoldable pub best_of : (ℕ → ℕ → Bool) → ℕ → Option ℕ → Option ℕ
best_of lt s none = some s
best_of lt s (some t) = elim (lt s t) [ true ↦ some s | false ↦ some t ]

-- the best under an order of those of the list that pass the test
unfoldable pub best : (ℕ → Bool) → (ℕ → ℕ → Bool) → List ℕ → Option ℕ
best ok lt [] = none
best ok lt (s ∷ ss) = let r = best ok lt ss in elim (ok s) [ true ↦ best_of lt s r | false ↦ r ]

-- the best admissible set for session k, none where no set is admissible
unfoldable pub choose : Meaning → Line → ℕ → ℕ → ℕ → ℕ → ℕ → Option ℕ
choose m l k lower upper a b = best (admissible m l k lower upper) (better m a b) (subsets 64 m.authorized)
