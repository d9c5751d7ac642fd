-- What a test of every member of a list says, of each member and at each place, and a test of every number below one.
-- Assumes nothing.
use mathlib.Core.Path.{◌≡◌, refl, ap, ◌∙◌}
use mathlib.Core.Logic.{inl, inr}
use mathlib.Core.Bool.{Bool, true}
use mathlib.Core.List.Memᴰ
use mathlib.Core.List.{List, [], ◌∷◌, Memᴰ}
use Prim.Native.Nat.{ℕ, zero, suc, ◌<◌, suc-le-suc}
use native.Mathlib.Nat.{zero-lt-suc, not-suc-le-zero, le_of_suc-le-suc}
use native.Mathlib.Decide.{dec_lt}
use native.Mathlib.Omega.{arith}
use lib.ListN.{length, get_or}
use Rattle.model.specs.Tests.{all, all_below}
use Rattle.model_laws.proofs.Bools.{and_l, and_r, both}

module _ {ℓ} {A : Type ℓ} (f : A → Bool) where
  -- each member passes
  pub all_mem : (l : List A) → all f l ≡ true → (x : A) → Memᴰ x l → f x ≡ true
  unfolding all
  all_mem [] e x m = absurd (Memᴰ.not-nil m)
  all_mem (y ∷ l) e x m =
      elim (Memᴰ.cases_cons m) [ inl q ↦ ap f q ∙ and_l (f y) (all f l) e | inr k ↦ all_mem l (and_r (f y) (all f l) e) x k ]

  pub mem_all : (l : List A) → ((x : A) → Memᴰ x l → f x ≡ true) → all f l ≡ true
  unfolding all
  mem_all [] h = refl
  mem_all (y ∷ l) h = both (f y) (all f l) (h y (Memᴰ.head refl)) (mem_all l (λ x m. h x (Memᴰ.tail m)))

  -- what stands at each place passes
  pub all-at : (l : List A) (d : A) → all f l ≡ true → (j : ℕ) → j < length l → f (get_or l j d) ≡ true
  unfolding all
  all-at [] d e j h = absurd (not-suc-le-zero h)
  all-at (y ∷ l) d e zero h = and_l (f y) (all f l) e
  all-at (y ∷ l) d e (suc j) h = all-at l d (and_r (f y) (all f l) e) j (le_of_suc-le-suc h)

  pub at_all : (l : List A) (d : A) → ((j : ℕ) → j < length l → f (get_or l j d) ≡ true) → all f l ≡ true
  unfolding all
  at_all [] d h = refl
  at_all (y ∷ l) d h = both (f y) (all f l) (h 0 (zero-lt-suc (length l))) (at_all l d (λ j k. h (suc j) (suc-le-suc k)))

-- each number below passes
pub at_below : (f : ℕ → Bool) (n : ℕ) → all_below f n ≡ true → (k : ℕ) → k < n → f k ≡ true
unfolding all_below
at_below f zero e k h = absurd (omega arith)
at_below f (suc n) e k h =
    elim (dec_lt k n) [
      | yes i ↦ at_below f n (and_r (f n) (all_below f n) e) k i
      | no i ↦ let q : k ≡ n = omega arith in ap f q ∙ and_l (f n) (all_below f n) e
    ]
