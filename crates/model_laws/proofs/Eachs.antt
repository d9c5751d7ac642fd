-- Laws of what each member of a list has.
-- Assumes nothing.
use mathlib.Core.Path.{◌≡◌, refl, sym, subst}
use mathlib.Core.Logic.{inl, inr}
use mathlib.Core.List.Memᴰ
use mathlib.Core.List.{List, [], ◌∷◌, ◌++◌, map, Memᴰ}
use native.Mathlib.Omega.{arith}
use lib.ListN.{length}
use Rattle.model.specs.Ranges.{Each}

module _ {A : Type 0} where
  -- by a fact that follows from it
  pub each_by : (P Q : A → Type 0) → ((x : A) → P x → Q x) → (xs : List A) → Each P xs → Each Q xs
  each_by P Q f [] e = tt
  each_by P Q f (x ∷ xs) e = (f x e.0, each_by P Q f xs e.1)

  pub each_two : (P Q R : A → Type 0) → ((x : A) → P x → Q x → R x) → (xs : List A) → Each P xs → Each Q xs → Each R xs
  each_two P Q R f [] e d = tt
  each_two P Q R f (x ∷ xs) e d = (f x e.0 d.0, each_two P Q R f xs e.1 d.1)

  -- of two lists one after the other
  pub each_append : (P : A → Type 0) (xs ys : List A) → Each P xs → Each P ys → Each P (xs ++ ys)
  each_append P [] ys e d = d
  each_append P (x ∷ xs) ys e d = (e.0, each_append P xs ys e.1 d)

  pub each_of : (P : A → Type 0) → ((x : A) → P x) → (xs : List A) → Each P xs
  each_of P f [] = tt
  each_of P f (x ∷ xs) = (f x, each_of P f xs)

  -- of a member
  pub each_mem : (P : A → Type 0) (xs : List A) → Each P xs → (x : A) → Memᴰ x xs → P x
  each_mem P [] e x m = absurd (Memᴰ.not-nil m)
  each_mem P (y ∷ xs) e x m =
      elim (Memᴰ.cases_cons m) [ inl q ↦ subst P (sym q) e.0 | inr k ↦ each_mem P xs e.1 x k ]

  -- from the members
  pub mem_each : (P : A → Type 0) (xs : List A) → ((x : A) → Memᴰ x xs → P x) → Each P xs
  mem_each P [] h = tt
  mem_each P (x ∷ xs) h = (h x (Memᴰ.head refl), mem_each P xs (λ y m. h y (Memᴰ.tail m)))

  -- a list with no member
  pub nil_of : (xs : List A) → length xs ≡ 0 → xs ≡ []
  nil_of [] e = refl
  nil_of (x ∷ xs) e = absurd (omega arith)

-- of what a function makes of the members
pub each_map : {A B : Type 0} (P : B → Type 0) (f : A → B) (xs : List A) → Each (λ x. P (f x)) xs → Each P (map f xs)
each_map P f [] e = tt
each_map P f (x ∷ xs) e = (e.0, each_map P f xs e.1)

pub map_each : {A B : Type 0} (P : B → Type 0) (f : A → B) (xs : List A) → Each P (map f xs) → Each (λ x. P (f x)) xs
map_each P f [] e = tt
map_each P f (x ∷ xs) e = (e.0, map_each P f xs e.1)
