-- What decides a call: the first refusal that applies, and the session that an open takes.
-- Assumes nothing.
use mathlib.Core.Path.{◌≡◌, refl, sym, ap, ◌∙◌, subst}
use mathlib.Core.Logic.{inl, inr}
use mathlib.Core.Bool.{Bool, true, false, not}
use mathlib.Core.Option.{none, some, some-injective, some-ne-none, none-ne-some}
use mathlib.Core.List.{List, [], ◌∷◌, ◌++◌}
use Prim.Native.Nat.{ℕ, zero, suc, ◌+◌, ◌<◌, zero-le}
use native.Mathlib.Nat.{le_refl}
use native.Mathlib.Decide.{dec_lt}
use native.Mathlib.Omega.{arith}
use lib.Dec.{eqb}
use borrow.Author.Tests.{eqb-false, not-true, not-false}
use borrow.Table.Steps.{cases}
use Rattle.model.specs.declared.Line.{Line}
use Rattle.model.specs.Tests.{first, lowest}
use Rattle.model.specs.Sets.{has, one, count_to, count}
use Rattle.model.specs.Policy.{table_of}
use Rattle.model.specs.Line.{is_open, lowest_closed}
use Rattle.model_laws.proofs.Bools.{elim_case}
use Rattle.model_laws.proofs.UnionLaws.{below_or_last}
use Rattle.model_laws.proofs.LowestLaws.{LowestIs, lowest_is}
use Rattle.model.specs.Session.{Refusal, refusal_number, bad_other, bad_line, bad_session, is_closed, is_full, bad_set, bad_permission, bad_bounds, bad_aim, bad_room, no_set, not_below, not_carried, bad_pair, no_obstacle, too_long}

-- ---- the first refusal that applies
module _ {A : Type 0} (f : A → Bool) where
  -- none: the first does not apply, nor does any behind it
  pub first-none : (x : A) (xs : List A) → first f (x ∷ xs) ≡ none → (f x ≡ false) × (first f xs ≡ none)
  unfolding first
  first-none x xs = elim_case (λ o. o ≡ none → (f x ≡ false) × (first f xs ≡ none)) (f x) (some x) _ (λ p e. absurd (some-ne-none x e)) (λ p e. (p, e))

  -- the one given applies
  pub first_some : (xs : List A) (y : A) → first f xs ≡ some y → f y ≡ true
  unfolding first
  first_some [] y e = absurd (none-ne-some y e)
  first_some (x ∷ xs) y e =
      elim_case (λ o. o ≡ some y → f y ≡ true) _ _ _ (λ p q. ap f (sym (some-injective x y q)) ∙ p) (λ p. first_some xs y) e

  -- none of a list with one more behind it
  first_more : (xs : List A) (y : A) → first f xs ≡ none → f y ≡ false → first f (xs ++ (y ∷ [])) ≡ none
  unfolding first
  first_more [] y e h = rw (h, first)
  first_more (x ∷ xs) y e h =
      let a = first-none x xs e in
      rw (a.0, first) (first_more xs y a.1 h)

  -- the first of a list, with one more behind it
  first_front : (xs : List A) (x y : A) → first f xs ≡ some x → first f (xs ++ (y ∷ [])) ≡ some x
  unfolding first
  first_front [] x y e = absurd (none-ne-some x e)
  first_front (z ∷ xs) x y e =
      cases (f z) (λ p. rw (p, first) (rw (p, first) at e)) (λ p. rw (p, first) (first_front xs x y (rw (p, first) at e)))

  -- none of a list, and one behind it that passes
  first_last : (xs : List A) (y : A) → first f xs ≡ none → f y ≡ true → first f (xs ++ (y ∷ [])) ≡ some y
  unfolding first
  first_last [] y e h = rw (h, first)
  first_last (x ∷ xs) y e h =
      let a = first-none x xs e in
      rw (a.0, first) (first_last xs y a.1 h)

-- none of the numbers below n
pub first_below : (f : ℕ → Bool) (n : ℕ) → ((v : ℕ) → v < n → f v ≡ false) → first f (table_of n (λ v. v)) ≡ none
unfolding table_of first
first_below f zero h = refl
first_below f (suc n) h = first_more f (table_of n (λ v. v)) n (first_below f n (λ v i. h v (omega arith))) (h n (le_refl (suc n)))

-- the lowest of the numbers below n
pub first-lowest : (f : ℕ → Bool) (n v : ℕ) → v < n → f v ≡ true → ((w : ℕ) → w < v → f w ≡ false) → first f (table_of n (λ w. w)) ≡ some v
unfolding table_of
first-lowest f zero v l h g = absurd (omega arith)
first-lowest f (suc n) v l h g =
    elim (below_or_last v n l) [
      | inl k ↦ first_front f (table_of n (λ w. w)) v n (first-lowest f n v k h g)
      | inr k ↦
          rw k (first_last f (table_of n (λ w. w)) n (first_below f n (λ w i. g w (omega arith))) (ap f (sym k) ∙ h))
    ]

-- ---- the lowest closed session

-- it is the lowest number whose session is closed
closed_is_lowest : (l : Line) (k d : ℕ) → lowest (λ j. not (is_open l j)) k d ≡ lowest_closed l k d
unfolding lowest lowest_closed
closed_is_lowest l k zero = refl
closed_is_lowest l k (suc d) =
    cases (is_open l k) (λ e. rw (e, lowest, lowest_closed) (closed_is_lowest l (suc k) d)) (λ e. rw (e, lowest, lowest_closed))

-- with every session open, all are counted
count-full : (d s : ℕ) → ((j : ℕ) → j < d → has s j ≡ true) → count d s ≡ d
unfolding count count_to
count-full zero s h = refl
count-full (suc d) s h =
    ap (λ (b : Bool). one b + count d s) (h d (le_refl (suc d))) ∙ omega (arith, count-full d s (λ j i. h j (omega arith)))

-- where not all of W sessions are open, the lowest closed one is one of them
pub lowest_closed_lem : (W : ℕ) (l : Line) → eqb (count W l.opened) W ≡ false
    → (lowest_closed l 0 W < W) × (is_open l (lowest_closed l 0 W) ≡ false)
unfolding is_open
lowest_closed_lem W l e =
    let w = subst (LowestIs (λ j. not (is_open l j)) 0 W) (closed_is_lowest l 0 W) (lowest_is (λ j. not (is_open l j)) 0 W) in
    elim (dec_lt (lowest_closed l 0 W) W) [
      | yes h ↦ (h, not-true _ (w.passes (omega arith)))
      | no h ↦ absurd (eqb-false _ W e (count-full W l.opened (λ j i. not-false _ (w.before j zero-le (omega arith)))))
    ]

-- no refusal has the number 0
pub refusal-number : (f : Refusal) → ¬ (refusal_number f ≡ 0)
unfolding refusal_number
refusal-number bad_other e = omega arith
refusal-number bad_line e = omega arith
refusal-number bad_session e = omega arith
refusal-number is_closed e = omega arith
refusal-number is_full e = omega arith
refusal-number bad_set e = omega arith
refusal-number bad_permission e = omega arith
refusal-number bad_bounds e = omega arith
refusal-number bad_aim e = omega arith
refusal-number bad_room e = omega arith
refusal-number no_set e = omega arith
refusal-number (not_below n) e = omega arith
refusal-number (not_carried n) e = omega arith
refusal-number bad_pair e = omega arith
refusal-number no_obstacle e = omega arith
refusal-number too_long e = omega arith
