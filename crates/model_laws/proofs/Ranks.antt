-- The order of role sets by the two objectives and the set number: irreflexive, transitive and total, and the one that
-- the counts make.
-- Assumes nothing.
use mathlib.Core.Path.{◌≡◌, refl, sym, ap, ◌∙◌}
use mathlib.Core.Logic.{◌⊎◌, inl, inr}
use mathlib.Core.Bool.{Bool, true, false, ◌&&◌, ◌||◌, or-true}
use Prim.Native.Nat.{ℕ, zero, suc, ◌-◌, ◌≤◌, ◌<◌}
use native.Mathlib.Omega.{arith}
use lib.Dec.{eqb, ltb}
use borrow.Author.Tests.{eqb-true, eq-eqb, lt-ltb, ltb-true}
use Rattle.model.specs.Sets.{has, count_to, count}
use Rattle.model.specs.Policy.{Meaning}
use Rattle.model.specs.Tests.{earlier}
use Rattle.model.specs.Choice.{carried_by, cost, better, permission_cost, role_cost}
use Rattle.model.specs.Chosen.{before, RankIs}
use Rattle.model_laws.proofs.Bools.{and_l, and_r, or_cases, not_both, fails, bool_ext}
use Rattle.model_laws.proofs.SetLaws.{one-most}

-- `earlier` as a fact about the numbers
abbrev pub Earlier : ℕ → ℕ → ℕ → ℕ → ℕ → ℕ → Type 0
Earlier p q x y s t = (p < q) ⊎ ((p ≡ q) × ((x < y) ⊎ ((x ≡ y) × (s < t))))

module _ (p q x y s t : ℕ) where
  -- what the test tells
  pub earlier_true : earlier p q x y s t ≡ true → Earlier p q x y s t
  unfolding earlier
  earlier_true e =
      let low = ltb x y || (eqb x y && ltb s t) in
      elim (or_cases (ltb p q) (eqb p q && low) e) [
        | inl h ↦ inl (ltb-true p q h)
        | inr h ↦ inr (
          eqb-true p q (and_l (eqb p q) low h),
          elim (or_cases (ltb x y) (eqb x y && ltb s t) (and_r (eqb p q) low h)) [
            | inl k ↦ inl (ltb-true x y k)
            | inr k ↦ inr (eqb-true x y (and_l (eqb x y) (ltb s t) k), ltb-true s t (and_r (eqb x y) (ltb s t) k))
          ],
        )
      ]

  -- the test from the fact
  pub is_earlier : Earlier p q x y s t → earlier p q x y s t ≡ true
  unfolding earlier
  is_earlier (inl h) = rw (lt-ltb p q h)
  is_earlier (inr (e, inl h)) = rw (eq-eqb p q e, lt-ltb x y h) (or-true (ltb p q))
  is_earlier (inr (e, inr (d, h))) = rw (eq-eqb p q e, eq-eqb x y d, lt-ltb s t h, or-true (ltb x y)) (or-true (ltb p q))

-- nothing is earlier than itself
pub earlier_irrefl : (p x s : ℕ) → earlier p p x x s s ≡ false
earlier_irrefl p x s = fails (earlier p p x x s s) (λ e. no_way (earlier_true p p x x s s e))
  where
    no_way : Earlier p p x x s s → ⊥
    no_way (inl h) = omega arith
    no_way (inr (e, inl h)) = omega arith
    no_way (inr (e, inr (d, h))) = omega arith

Earlier-trans : (p q r x y z s t u : ℕ) → Earlier p q x y s t → Earlier q r y z t u → Earlier p r x z s u
Earlier-trans p q r x y z s t u (inl h) (inl k) = inl (omega arith)
Earlier-trans p q r x y z s t u (inl h) (inr (f, k)) = inl (omega arith)
Earlier-trans p q r x y z s t u (inr (e, h)) (inl k) = inl (omega arith)
Earlier-trans p q r x y z s t u (inr (e, inl h)) (inr (f, inl k)) = inr (e ∙ f, inl (omega arith))
Earlier-trans p q r x y z s t u (inr (e, inl h)) (inr (f, inr (d, k))) = inr (e ∙ f, inl (omega arith))
Earlier-trans p q r x y z s t u (inr (e, inr (d, h))) (inr (f, inl k)) = inr (e ∙ f, inl (omega arith))
Earlier-trans p q r x y z s t u (inr (e, inr (d, h))) (inr (f, inr (g, k))) = inr (e ∙ f, inr (d ∙ g, omega arith))

-- what is earlier than an earlier one is earlier
pub earlier_trans : (p q r x y z s t u : ℕ) → earlier p q x y s t ≡ true → earlier q r y z t u ≡ true → earlier p r x z s u ≡ true
earlier_trans p q r x y z s t u e f =
    is_earlier p r x z s u (Earlier-trans p q r x y z s t u (earlier_true p q x y s t e) (earlier_true q r y z t u f))

-- two sets neither of which is earlier are the same
pub earlier_total : (p q x y s t : ℕ) → earlier p q x y s t ≡ false → earlier q p y x t s ≡ false → s ≡ t
earlier_total p q x y s t e f =
    let no : Earlier p q x y s t → ⊥ = λ h. not_both _ (is_earlier p q x y s t h) e in
    let on : Earlier q p y x t s → ⊥ = λ h. not_both _ (is_earlier q p y x t s h) f in
    let a : ¬ (p < q) = λ h. no (inl h) in
    let b : ¬ (q < p) = λ h. on (inl h) in
    let pq : p ≡ q = omega arith in
    let c : ¬ (x < y) = λ h. no (inr (pq, inl h)) in
    let d : ¬ (y < x) = λ h. on (inr (sym pq, inl h)) in
    let xy : x ≡ y = omega arith in
    let g : ¬ (s < t) = λ h. no (inr (pq, inr (xy, h))) in
    let k : ¬ (t < s) = λ h. on (inr (sym pq, inr (sym xy, h))) in
    omega arith

-- ---- the same of `better`
module _ (m : Meaning) (a b : ℕ) where
  -- no set is better than itself
  pub better_irrefl : (s : ℕ) → better m a b s s ≡ false
  unfolding better
  better_irrefl s = earlier_irrefl (permission_cost m a s) (role_cost b s) s

  -- what is better than a better set is better
  pub better_trans : (r s t : ℕ) → better m a b r s ≡ true → better m a b s t ≡ true → better m a b r t ≡ true
  unfolding better
  better_trans r s t =
      earlier_trans (permission_cost m a r) (permission_cost m a s) (permission_cost m a t) (role_cost b r) (role_cost b s) (role_cost b t) r s t

  -- two sets neither of which is better are the same
  pub better_total : (s t : ℕ) → better m a b s t ≡ false → better m a b t s ≡ false → s ≡ t
  unfolding better
  better_total s t = earlier_total (permission_cost m a s) (permission_cost m a t) (role_cost b s) (role_cost b t) s t

-- ---- the order is by counts

-- at most d numbers below d pass a test
pub count_most : (f : ℕ → Bool) (d : ℕ) → count_to f d ≤ d
unfolding count_to
count_most f zero = omega arith
count_most f (suc d) = omega (arith, one-most (f d), count_most f d)

-- a set has at most d members below d
pub count-le : (d s : ℕ) → count d s ≤ d
unfolding count
count-le d s = count_most (has s) d

module _ (n k : ℕ) (small : n ≤ 256) (short : k ≤ 256) where
  -- up to 256, the lower distance from 256 is the higher number
  most-first : ltb (256 - n) (256 - k) ≡ ltb k n
  most-first =
      bool_ext (ltb (256 - n) (256 - k)) (ltb k n) (λ e. let h = ltb-true (256 - n) (256 - k) e in lt-ltb k n (omega arith))
      (λ e. let h = ltb-true k n e in lt-ltb (256 - n) (256 - k) (omega arith))

  most_same : eqb (256 - n) (256 - k) ≡ eqb n k
  most_same =
      bool_ext (eqb (256 - n) (256 - k)) (eqb n k) (λ e. let h = eqb-true (256 - n) (256 - k) e in eq-eqb n k (omega arith))
      (λ e. let h = eqb-true n k e in eq-eqb (256 - n) (256 - k) (omega arith))

  -- costs compare as the objective says of the counts
  by_cost : (a : ℕ) (rest : Bool) → (ltb (cost a n) (cost a k) || (eqb (cost a n) (cost a k) && rest)) ≡ before a n k rest
  unfolding cost before
  by_cost zero rest = refl
  by_cost (suc zero) rest = refl
  by_cost (suc (suc a)) rest = rw (most-first, most_same)

pub rank_is : (m : Meaning) → RankIs m
unfolding better earlier permission_cost role_cost
rank_is m a b s t =
    by_cost (count 256 (carried_by m s)) (count 256 (carried_by m t)) (count-le 256 (carried_by m s)) (count-le 256 (carried_by m t)) a
    (ltb (role_cost b s) (role_cost b t) || (eqb (role_cost b s) (role_cost b t) && ltb s t))
    ∙ ap (before a (count 256 (carried_by m s)) (count 256 (carried_by m t)))
    (by_cost (count 64 s) (count 64 t) (few s) (few t) b (ltb s t))
  where
    few : (x : ℕ) → count 64 x ≤ 256
    few x = omega (arith, count-le 64 x)
