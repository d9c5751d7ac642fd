-- What the clauses of an ask say: which valuations satisfy the hard ones, and what weight of the soft ones they
-- violate.
-- Assumes nothing.
use Rattle.std.specs.Prelude.{◌≡◌, Bool, true, not, ◌⊎◌, ◌↔◌, List, [], ◌∷◌, ℕ, ◌+◌, ◌*◌, ◌≤◌, ◌<◌, length}
use Rattle.std.proofs.Math.Option.{some}
use Rattle.model.specs.declared.Exclusion.{Exclusion}
use Rattle.model.specs.declared.Line.{Line}
use Rattle.model.specs.Tests.{pick, any, all}
use Rattle.model.specs.Sets.{has, count, set_of}
use Rattle.model.specs.Policy.{Meaning}
use Rattle.model.specs.Choice.{carried_by, admissible, permission_cost, role_cost, choose}
use Rattle.model.specs.Clauses.{Literal, holds, fails, Clause, role_variable, permission_variable, excluding, hard, Weighted, soft, top}

-- ---- valuations

-- which variables are true
abbrev pub Valuation : Type 0
Valuation = ℕ → Bool

unfoldable pub makes : Valuation → Literal → Bool
makes v (holds x) = v x
makes v (fails x) = not (v x)

unfoldable pub satisfies : Valuation → Clause → Bool
satisfies v c = any (makes v) c

unfoldable pub satisfies_all : Valuation → List Clause → Bool
satisfies_all v cs = all (satisfies v) cs

-- the weight of the soft clauses that are not satisfied
unfoldable pub violated : Valuation → List Weighted → ℕ
violated v [] = 0
violated v (c ∷ cs) = pick (satisfies v c.clause) 0 c.weight + violated v cs

-- ---- what the clauses of an ask say

-- the roles whose variables are true
unfoldable pub named : Meaning → Valuation → ℕ
named m v = set_of (λ r. v (role_variable r)) m.roles

-- the variables of roles and permissions say the role set s and what it carries
pub record Says (m : Meaning) (v : Valuation) (s : ℕ) : Type 0 where
  pub roles : (r : ℕ) → r < m.roles → v (role_variable r) ≡ has s r
  pub permissions : (q : ℕ) → q < m.permissions → v (permission_variable m q) ≡ has (carried_by m s) q

-- each admissible set is named by some valuation that satisfies the hard clauses, and each valuation that does names
-- an admissible set and says what it carries
pub record HardIs (m : Meaning) (l : Line) (k lower upper : ℕ) : Type 0 where
  pub extends : (s : ℕ) → admissible m l k lower upper s ≡ true
      → (v : Valuation) × (satisfies_all v (hard m l k lower upper) ≡ true) × (named m v ≡ s) × Says m v s
  pub names : (v : Valuation) → satisfies_all v (hard m l k lower upper) ≡ true
      → (admissible m l k lower upper (named m v) ≡ true) × Says m v (named m v)

-- s comes before t by the objectives a and b, the set numbers aside
abbrev pub Before : Meaning → ℕ → ℕ → ℕ → ℕ → Type 0
Before m a b s t =
    (permission_cost m a s < permission_cost m a t)
    ⊎ ((permission_cost m a s ≡ permission_cost m a t) × (role_cost b s < role_cost b t))

-- among the valuations that satisfy the hard clauses, less weight is violated exactly where the set named is better by
-- the objectives. So it is the least where the set is the chosen one, and where it is the least no admissible set is
-- better by the objectives
pub record SoftIs (m : Meaning) (l : Line) (k lower upper a b : ℕ) : Type 0 where
  pub less : (v w : Valuation) → satisfies_all v (hard m l k lower upper) ≡ true → satisfies_all w (hard m l k lower upper) ≡ true
      → (violated v (soft m a b) < violated w (soft m a b)) ↔ Before m a b (named m v) (named m w)
  pub least : (v : Valuation) → satisfies_all v (hard m l k lower upper) ≡ true → choose m l k lower upper a b ≡ some (named m v)
      → (w : Valuation) → satisfies_all w (hard m l k lower upper) ≡ true → violated v (soft m a b) ≤ violated w (soft m a b)
  pub best : (v : Valuation) → satisfies_all v (hard m l k lower upper) ≡ true
      → ((w : Valuation) → satisfies_all w (hard m l k lower upper) ≡ true → violated v (soft m a b) ≤ violated w (soft m a b))
      → (t : ℕ) → admissible m l k lower upper t ≡ true → ¬ Before m a b t (named m v)
  pub below_top : (v : Valuation) → violated v (soft m a b) < top (soft m a b)

-- the clauses of an exclusion are at most 4 times its members times its n
abbrev pub FewClauses : Line → ℕ → ℕ → Exclusion → Type 0
FewClauses l k a x = length (excluding l k a x) ≤ 4 * (count 64 x.members * x.n)
