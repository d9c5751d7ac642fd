-- What the roles of a set carry: the permissions of its roles and no others, and for a set between no more than the
-- free roles leave.
-- Assumes nothing.
use mathlib.Core.Path.{◌≡◌, refl, sym, ap, ◌∙◌}
use mathlib.Core.Bool.{Bool, true, false, ◌||◌}
use mathlib.Core.Logic.{◌⊎◌, inl, inr}
use Prim.Native.Nat.{ℕ, zero, suc, ◌<◌}
use native.Mathlib.Omega.{arith}
use lib.Dec.{ltb}
use borrow.Author.Tests.{ltb-true, ltb-false}
use Rattle.model.specs.Tests.{pick}
use Rattle.model.specs.Sets.{has, union, union_to}
use Rattle.model_laws.proofs.Bools.{or_l, or_r, or_cases}
use Rattle.model_laws.proofs.SetLaws.{has-union}
use Rattle.sets.specs.Members.{Lowest}
use Rattle.sets.proofs.Taken.{lowest_least}
use Rattle.query.specs.Carry.{Sub, Reaches}
use Rattle.query_rank.specs.Ranks.{Between}
use Rattle.query.proofs.Members.{no_member, either, left_sub, right_sub}
-- no roles, and one role more
pub use Rattle.model_laws.proofs.UnionLaws.{union_to_none as Carried-none}
pub use Rattle.sets.proofs.Unions.{union_to-with as carried-with}

module _ (row : ℕ → ℕ) (s p : ℕ) where
  -- what a role of the set carries
  pub carried_in : (d r : ℕ) → r < d → has s r ≡ true → has (row r) p ≡ true → has (union_to row s d) p ≡ true
  unfolding union_to pick
  carried_in zero r l m h = absurd (omega arith)
  carried_in (suc d) r l m h =
      has-union (union_to row s d) (pick (has s d) (row d) 0) p ∙ go (either (ltb r d)) (λ k. carried_in d r k m h)
    where
      go : (ltb r d ≡ true) ⊎ (ltb r d ≡ false) → (r < d → has (union_to row s d) p ≡ true)
          → (has (union_to row s d) p || has (pick (has s d) (row d) 0) p) ≡ true
      go (inl k) ih = or_l (has (union_to row s d) p) (has (pick (has s d) (row d) 0) p) (ih (ltb-true r d k))
      go (inr k) ih =
          let e : r ≡ d = omega (arith, ltb-false r d k) in
          let m' : has s d ≡ true = ap (has s) (sym e) ∙ m in
          let h' : has (row d) p ≡ true = ap (λ (x : ℕ). has (row x) p) (sym e) ∙ h in
          or_r (has (union_to row s d) p) (has (pick (has s d) (row d) 0) p) (rw m' h')

  -- is carried by a role of the set
  pub carried_by_lem : (d : ℕ) → has (union_to row s d) p ≡ true → (r : ℕ) × (r < d) × (has s r ≡ true) × (has (row r) p ≡ true)
  unfolding union_to pick
  carried_by_lem zero h = no_member p h
  carried_by_lem (suc d) h =
      go (or_cases (has (union_to row s d) p) (has (pick (has s d) (row d) 0) p) (sym (has-union (union_to row s d) (pick (has s d) (row d) 0) p) ∙ h))
      (carried_by_lem d)
    where
      last : (b : Bool) → has s d ≡ b → has (pick b (row d) 0) p ≡ true → (r : ℕ) × (r < suc d) × (has s r ≡ true) × (has (row r) p ≡ true)
      last true e k = (d, omega arith, e, k)
      last false e k = no_member p k

      go : (has (union_to row s d) p ≡ true) ⊎ (has (pick (has s d) (row d) 0) p ≡ true)
          → (has (union_to row s d) p ≡ true → (r : ℕ) × (r < d) × (has s r ≡ true) × (has (row r) p ≡ true))
          → (r : ℕ) × (r < suc d) × (has s r ≡ true) × (has (row r) p ≡ true)
      go (inl k) ih = let x = ih k in (x.0, omega (arith, x.1), x.2, x.3)
      go (inr k) ih = last (has s d) refl k

module _ (row : ℕ → ℕ) (d : ℕ) where
  -- more roles carry no less
  pub carried_sub : (s t : ℕ) → Sub s t → Sub (union_to row s d) (union_to row t d)
  carried_sub s t h p m = let x = carried_by_lem row s p d m in carried_in row t p d x.0 x.1 (h x.0 x.2) x.3

  -- what holds of the permissions of each role holds of those of the set
  pub carried_least : (s u : ℕ) → ((r : ℕ) → r < d → has s r ≡ true → Sub (row r) u) → Sub (union_to row s d) u
  carried_least s u h p m = let x = carried_by_lem row s p d m in h x.0 x.1 x.2 p x.3

  pub row_sub : (s r : ℕ) → r < d → has s r ≡ true → Sub (row r) (union_to row s d)
  row_sub s r l m p h = carried_in row s p d r l m h

module _ (row reach : ℕ → ℕ) (chosen free carried role : ℕ) where
  -- no set between carries more than the chosen roles and those from the lowest free one on
  pub top-bound : Reaches row reach free → Lowest free role → carried ≡ union_to row chosen 64 → (s : ℕ) → Between chosen free s
      → Sub (union_to row s 64) (union carried (reach role))
  top-bound h low e s b = carried_least row 64 s (union carried (reach role)) (λ r l m. go r l (b.most r m))
    where
      go : (r : ℕ) → r < 64 → (has chosen r ≡ true) ⊎ (has free r ≡ true) → Sub (row r) (union carried (reach role))
      go r l (inl m) p k = left_sub carried (reach role) p (ap (λ (x : ℕ). has x p) e ∙ row_sub row 64 chosen r l m p k)
      go r l (inr m) p k = right_sub carried (reach role) p (h.rows role r (lowest_least free role r low m) l m p k)
