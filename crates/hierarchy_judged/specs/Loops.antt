-- An image judged by what its words mean together: by the loops of its policy, and by what its users reach.
-- Assumes nothing.
use Rattle.std.specs.Prelude.{◌≡◌, List, ℕ, ◌≤◌, ◌<◌, get_or, length, Result, Ok, Err}
use Rattle.model.specs.declared.Head.{Head}
use Rattle.model.specs.Policy.{Policy, below_table, authorized}
use Rattle.model.specs.Judgement.{judge_meaning}
use Rattle.reasons.specs.declared.Refusal.{Refusal}
use Rattle.reasons.specs.Numbers.{checked_of}
use Rattle.hierarchy_judged.specs.Reach.{Few}

-- the tables of assigned roles and of direct juniors fit the head's numbers
pub record Fit (h : Head) (assigned juniors : List ℕ) : Type 0 where
  pub roles : h.roles ≤ 64
  pub users : h.users ≤ 64
  pub juniors_size : length juniors ≡ 64
  pub assigned_size : length assigned ≡ 64
  pub few : Few h.roles assigned

-- the head and the two tables are the policy's
pub record Gives (p : Policy) (h : Head) (assigned juniors : List ℕ) : Type 0 where
  pub head_is : p.head ≡ h
  pub assigned_is : assigned ≡ p.assigned
  pub juniors_is : juniors ≡ p.juniors

-- where the words pass, they are
abbrev pub Passed : {R : Type 0} → Policy → Result Head R → List ℕ → List ℕ → Type 0
Passed p c assigned juniors = (h : Head) → c ≡ Ok h → Gives p h assigned juniors

-- r is the judgement of an image whose words are judged c, and where it accepts, the one table has the roles that each
-- user may activate, and the other is the closed one
pub record Judged (p : Policy) (c r : Result Head Refusal) (own below : List ℕ) : Type 0 where
  pub verdict : checked_of r ≡ judge_meaning p (checked_of c)
  pub below_is : (h : Head) → r ≡ Ok h → below ≡ below_table p
  pub own_is : (h : Head) → r ≡ Ok h → (u : ℕ) → u < p.head.users → get_or own u 0 ≡ authorized p u

-- where the words, judged c, are accepted, their head is accepted, and the two tables are right as they are
abbrev pub Stands : {R : Type 0} → Policy → Result Head R → List ℕ → List ℕ → Type 0
Stands p c own below = (h : Head) → c ≡ Ok h → Judged p (Ok h) (Ok h) own below

-- r is what comes of an image whose words are judged c: their refusal as it is, or the judgement of the head that they
-- accept
pub record Comes {R : Type 0} (p : Policy) (c : Result Head R) (r : Result (Result Head Refusal) R) (own below : List ℕ) : Type 0 where
  pub refused : (x : R) → c ≡ Err x → r ≡ Err x
  pub accepted : (h : Head) → c ≡ Ok h → (v : Result Head Refusal) × (r ≡ Ok v) × Judged p (Ok h) v own below
