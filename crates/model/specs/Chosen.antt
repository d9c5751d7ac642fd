-- What the choice gives: the admissible set that no admissible set is better than, and so among those without barred
-- roles; and what better means, in counts.
-- Assumes nothing.
use Rattle.std.specs.Prelude.{◌≡◌, Bool, true, false, ◌&&◌, ◌||◌, ◌↔◌, ℕ, zero, suc, eqb, ltb}
use Rattle.std.proofs.Math.Option.{none, some}
use Rattle.model.specs.declared.Line.{Line}
use Rattle.model.specs.Sets.{has, count}
use Rattle.model.specs.Bytes.{number}
use Rattle.model.specs.Policy.{Meaning}
use Rattle.model.specs.Limits.{Others, barred}
use Rattle.model.specs.Choice.{carried_by, admissible, better, choose}
use Rattle.model.specs.Session.{Query, chosen}

-- s is admissible, and no admissible set is better, by the objectives a and b
pub record IsBest (m : Meaning) (l : Line) (k lower upper a b s : ℕ) : Type 0 where
  pub is_admissible : admissible m l k lower upper s ≡ true
  pub is_first : (t : ℕ) → admissible m l k lower upper t ≡ true → better m a b t s ≡ false

-- `choose` gives exactly the best set, none exactly if no set is admissible, and there is only one best set
pub record ChoiceIs (m : Meaning) (l : Line) (k lower upper a b : ℕ) : Type 0 where
  pub is_best : (s : ℕ) → (choose m l k lower upper a b ≡ some s) ↔ IsBest m l k lower upper a b s
  pub is-none : (choose m l k lower upper a b ≡ none) ↔ ((t : ℕ) → admissible m l k lower upper t ≡ false)
  pub is_unique : (s t : ℕ) → IsBest m l k lower upper a b s → IsBest m l k lower upper a b t → s ≡ t

-- n is before k under an objective: 1 is the fewest, 2 the most; where that does not tell them apart, and under 0, the
-- rest does
unfoldable pub before : ℕ → ℕ → ℕ → Bool → Bool
before zero n k rest = rest
before (suc zero) n k rest = ltb n k || (eqb n k && rest)
before (suc (suc a)) n k rest = ltb k n || (eqb n k && rest)

-- s is better than t by the count of all permissions carried under the first objective, then by the count of roles
-- under the second, then by the lower set number
abbrev pub RankIs : Meaning → Type 0
RankIs m = (a b s t : ℕ)
    → better m a b s t
    ≡ before a (count 256 (carried_by m s)) (count 256 (carried_by m t)) (before b (count 64 s) (count 64 t) (ltb s t))

-- ---- the set that answers a query, given what an ask is told of the other users

-- no role of s is barred for session k
abbrev pub Unbarred : Meaning → Others → Line → ℕ → ℕ → Type 0
Unbarred m x l k s = (r : ℕ) → has s r ≡ true → barred m x l k r ≡ false

-- s is admissible for the query
abbrev pub Meets : Meaning → Line → ℕ → Query → ℕ → Type 0
Meets m l k q s = admissible m l k (number q.lower) (number q.upper) s ≡ true

-- s is admissible and holds no barred role, and no other such set is better
pub record IsBestUnbarred (m : Meaning) (x : Others) (l : Line) (k : ℕ) (q : Query) (s : ℕ) : Type 0 where
  pub is_admissible : Meets m l k q s
  pub is_unbarred : Unbarred m x l k s
  pub is_first : (t : ℕ) → Meets m l k q t → Unbarred m x l k t → better m q.permission_aim q.role_aim t s ≡ false

-- a query is answered with exactly the best set without barred roles, with none exactly if no such set is admissible,
-- and there is only one best set
pub record ChosenIs (m : Meaning) (x : Others) (l : Line) (k : ℕ) (q : Query) : Type 0 where
  pub is_best : (s : ℕ) → (chosen m x l k q ≡ some s) ↔ IsBestUnbarred m x l k q s
  pub is-none : (chosen m x l k q ≡ none) ↔ ((t : ℕ) → Meets m l k q t → ¬ Unbarred m x l k t)
  pub is_unique : (s t : ℕ) → IsBestUnbarred m x l k q s → IsBestUnbarred m x l k q t → s ≡ t
