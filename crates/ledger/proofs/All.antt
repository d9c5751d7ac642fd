-- Laws of a test of every member of a list: one turn of a loop over it, two such tests in either order, tests that say
-- the same.
-- Assumes nothing.
use mathlib.Core.Path.{◌≡◌, refl, sym, ap, ap₂, ◌∙◌}
use mathlib.Core.Bool.{Bool, true, false, ◌&&◌}
use mathlib.Core.List.{List, [], ◌∷◌}
use Prim.Native.Nat.{ℕ, ◌+◌, ◌≤◌, ◌<◌}
use native.Mathlib.Numerals.{add-one}
use native.Mathlib.Omega.{arith}
use lib.ListN.{length, get_or, drop, drop_of_length-le}
use lib.Seq.{drop-cons}
use Rattle.model.specs.Tests.{all}
use Rattle.model_laws.proofs.Bools.{and_l, and_r, both}

-- the member at k and those behind it, by a test b of that member
module _ {A : Type 0} (f : A → Bool) (d : A) (xs : List A) (k : ℕ) where
  all-at : k < length xs → all f (drop k xs) ≡ (f (get_or xs k d) && all f (drop (k + 1) xs))
  unfolding all
  all-at h = rw (add-one k, drop-cons xs k d h)

  pub all-next : {b : Bool} → k < length xs → b ≡ f (get_or xs k d) → b ≡ true → all f (drop (k + 1) xs) ≡ all f (drop k xs)
  all-next h e t = sym (all-at h ∙ ap (λ (x : Bool). x && all f (drop (k + 1) xs)) (sym e ∙ t))

  pub all-stop : {b : Bool} → k < length xs → b ≡ f (get_or xs k d) → b ≡ false → false ≡ all f (drop k xs)
  all-stop h e t = sym (all-at h ∙ ap (λ (x : Bool). x && all f (drop (k + 1) xs)) (sym e ∙ t))

-- behind the last
pub all_end : {A : Type 0} (f : A → Bool) (xs : List A) (k : ℕ) → length xs ≤ k → true ≡ all f (drop k xs)
unfolding all
all_end f xs k h = rw (drop_of_length-le xs h)

pub all_cong : {A : Type 0} (f g : A → Bool) (xs : List A) → ((x : A) → f x ≡ g x) → all f xs ≡ all g xs
unfolding all
all_cong f g [] h = refl
all_cong f g (x ∷ xs) h = ap₂ (λ (a b : Bool). a && b) (h x) (all_cong f g xs h)

all_true : {A : Type 0} (xs : List A) → all (λ x. true) xs ≡ true
unfolding all
all_true [] = refl
all_true (x ∷ xs) = all_true xs

-- a test that is the same of every member, of whom there is one
pub all_same : {A : Type 0} (f : A → Bool) (b : Bool) (xs : List A) → 0 < length xs → ((x : A) → f x ≡ b) → all f xs ≡ b
unfolding all
all_same f b [] h e = absurd (omega arith)
all_same f true (x ∷ xs) h e = all_cong f (λ x. true) (x ∷ xs) e ∙ all_true xs
all_same f false (x ∷ xs) h e = ap (λ (a : Bool). a && all f xs) (e x)

shuffle : (a b c d : Bool) → ((a && b) && (c && d)) ≡ ((a && c) && (b && d))
shuffle true true c d = refl
shuffle true false true d = refl
shuffle true false false d = refl
shuffle false b c d = refl

all_and : {A : Type 0} (f g : A → Bool) (xs : List A) → all (λ x. f x && g x) xs ≡ (all f xs && all g xs)
unfolding all
all_and f g [] = refl
all_and f g (x ∷ xs) = ap (λ (b : Bool). (f x && g x) && b) (all_and f g xs) ∙ shuffle (f x) (g x) (all f xs) (all g xs)

-- every x with every y, in either order
pub all_swap : {A B : Type 0} (f : A → B → Bool) (xs : List A) (ys : List B) → all (λ x. all (f x) ys) xs ≡ all (λ y. all (λ x. f x y) xs) ys
unfolding all
all_swap f [] ys = sym (all_true ys)
all_swap f (x ∷ xs) ys =
    ap (λ (b : Bool). all (f x) ys && b) (all_swap f xs ys) ∙ sym (all_and (f x) (λ y. all (λ x. f x y) xs) ys)

-- a test that passes wherever another does
pub all_then : {A : Type 0} (f g : A → Bool) (xs : List A) → ((x : A) → f x ≡ true → g x ≡ true) → all f xs ≡ true → all g xs ≡ true
unfolding all
all_then f g [] h e = refl
all_then f g (x ∷ xs) h e =
    both (g x) (all g xs) (h x (and_l (f x) (all f xs) e)) (all_then f g xs h (and_r (f x) (all f xs) e))
