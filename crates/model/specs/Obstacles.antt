-- What stands in the way of an ask, in the words of a policy: when each kind is told, and when nothing is.
-- Assumes nothing.
use Rattle.std.specs.Prelude.{◌≡◌, ◌↔◌, true, false, ℕ, ◌+◌, ◌*◌, ◌/◌, ◌%◌, ◌^◌, ◌≤◌, ◌<◌}
use Rattle.std.proofs.Math.Option.{none, some}
use mathlib.Core.List.{List, [], ◌∷◌, ◌++◌, Memᴰ}
use Rattle.model.specs.declared.Exclusion.{Exclusion}
use Rattle.model.specs.declared.Line.{Line}
use Rattle.model.specs.Sets.{has}
use Rattle.model.specs.Policy.{Policy, kind_number, before, meaning}
use Rattle.model.specs.Limits.{Others, barred}
use Rattle.model.specs.Obstacle.{Obstacle, obstacle_of}
use Rattle.model.specs.Run.{step, ask_by, obstacle_by}
use Rattle.model.specs.Chains.{Authorized, Carries}
use Rattle.model.specs.Ranges.{Ascending}
use Rattle.model.specs.Conditions.{counted_after, Permitted}

-- a call's extra and bytes hold all of it
pub record Readable (o : Obstacle) : Type 0 where
  pub kind : (o.kind + 8 * o.about) % 8 ≡ o.kind
  pub about : (o.kind + 8 * o.about) / 8 ≡ o.about
  pub first : o.first < 2 ^ 64
  pub second : o.second < 2 ^ 64

-- n is the lowest number with a property
pub record LowestWith (P : ℕ → Type 0) (n : ℕ) : Type 0 where
  pub holds : P n
  pub lowest : (j : ℕ) → j < n → ¬ P j

-- the members of s are the roles with a property
abbrev pub Members : ℕ → (ℕ → Type 0) → Type 0
Members s P = (r : ℕ) → (has s r ≡ true) ↔ P r

-- role r carries nothing outside the upper bound; or something
abbrev pub Fits : Policy → ℕ → ℕ → Type 0
Fits p ub r = (n : ℕ) → Carries p r n → has ub n ≡ true

abbrev pub Exceeds : Policy → ℕ → ℕ → Type 0
Exceeds p ub r = (n : ℕ) × Carries p r n × (has ub n ≡ false)

-- xs are the exclusions of a policy in the order of the tidy image, each once: ascending by kind, n and member set
pub record InTidyOrder (p : Policy) (xs : List Exclusion) : Type 0 where
  pub ascending : Ascending (λ x y. before x y ≡ true) xs
  pub members : (y : Exclusion) → Memᴰ y xs ↔ Memᴰ y p.exclusions

-- the policy with the exclusions xs alone
unfoldable pub excluding_just : List Exclusion → Policy → Policy
excluding_just xs p =
    record {
      head = p.head;
      assigned = p.assigned;
      granted = p.granted;
      juniors = p.juniors;
      exclusions = xs;
      limits = p.limits;
    }

-- for an ask of user u for session k with the bounds lb and ub, told x of the other users
module _ (p : Policy) (u : ℕ) (x : Others) (l : Line) (k lb ub : ℕ) where
  -- q is asked for and no role that the user may activate carries it
  abbrev pub LacksOwn : ℕ → Type 0
  LacksOwn q = (has lb q ≡ true) × ((r : ℕ) → Authorized p u r → ¬ Carries p r q)

  -- q is asked for and each of those roles that carries it carries something outside the upper bound too
  abbrev pub LacksUpper : ℕ → Type 0
  LacksUpper q = (has lb q ≡ true) × ((r : ℕ) → Authorized p u r → Carries p r q → Exceeds p ub r)

  -- q is asked for and each of those roles that carries it and nothing outside the upper bound is barred
  abbrev pub LacksLimit : ℕ → Type 0
  LacksLimit q = (has lb q ≡ true) × ((r : ℕ) → Authorized p u r → Carries p r q → Fits p ub r → barred (meaning p u) x l k r ≡ true)

  -- some set meets what an ask asks with the exclusions xs alone
  abbrev pub Left : List Exclusion → Type 0
  Left xs = (s : ℕ) × Permitted (excluding_just xs p) u x l k lb ub s

  -- role r is counted already for an exclusion at session k, whatever is put in for it
  abbrev pub Counted : Exclusion → ℕ → Type 0
  Counted y r = (t : ℕ) → has (counted_after l k t k y.kind) r ≡ true

  -- what each kind is told of
  pub data Stands : Obstacle → Type 0 where
    by_own : (q s : ℕ) → LowestWith LacksOwn q → Members s (λ r. Carries p r q)
        → Stands (record { kind = 1; about = q; first = s; second = 0 })
    by_upper : (q s : ℕ) → ((j : ℕ) → ¬ LacksOwn j) → LowestWith LacksUpper q → Members s (λ r. Authorized p u r × Carries p r q)
        → Stands (record { kind = 2; about = q; first = s; second = 0 })
    by_limit : (q s : ℕ) → ((j : ℕ) → ¬ LacksUpper j) → LowestWith LacksLimit q
        → Members s (λ r. Authorized p u r × Carries p r q × Fits p ub r) → Stands (record { kind = 3; about = q; first = s; second = 0 })
    by_exclusion : (front rest : List Exclusion) (y : Exclusion) (s : ℕ) → InTidyOrder p (front ++ (y ∷ rest))
        → Left front → ¬ Left (front ++ (y ∷ [])) → Members s (λ r. (has y.members r ≡ true) × Counted y r)
        → Stands (record { kind = 4; about = kind_number y.kind + 4 * y.n; first = s; second = y.members })

  -- what is told is what stands in the way, and nothing is told exactly if some set meets what the ask asks; where none
  -- does, exactly one thing stands in the way
  pub record ObstacleIs : Type 0 where
    pub tells : (o : Obstacle) → (obstacle_of (meaning p u) x l k lb ub ≡ some o) ↔ Stands o
    pub clear : (obstacle_of (meaning p u) x l k lb ub ≡ none) ↔ ((s : ℕ) × Permitted p u x l k lb ub s)
    pub one : ((s : ℕ) → ¬ Permitted p u x l k lb ub s) → (o : Obstacle) × Stands o × ((b : Obstacle) → Stands b → b ≡ o)
    pub readable : (o : Obstacle) → Stands o → Readable o

-- an ask is refused by 20 exactly if the obstacle with its bounds is done, and done exactly if that is refused by 20
pub record TwentyIs (W : ℕ) (image ledger : List ℕ) (u k : ℕ) (lower upper : List ℕ) (a b : ℕ) : Type 0 where
  pub refused : ((step W image ledger (ask_by u k lower upper a b 40)).reply.number ≡ 20)
      ↔ ((step W image ledger (obstacle_by u k lower upper 16)).reply.number ≡ 0)
  pub answered : ((step W image ledger (ask_by u k lower upper a b 40)).reply.number ≡ 0)
      ↔ ((step W image ledger (obstacle_by u k lower upper 16)).reply.number ≡ 20)

abbrev pub AsksTwenty : ℕ → List ℕ → Type 0
AsksTwenty W image = (ledger : List ℕ) (u k : ℕ) (lower upper : List ℕ) (a b : ℕ) → a ≤ 2 → b ≤ 2
    → TwentyIs W image ledger u k lower upper a b
