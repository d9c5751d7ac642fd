-- Laws of lists moved about: what order has no say in.
-- Assumes nothing.
use mathlib.Core.Path.{◌≡◌, refl, sym, ap, ◌∙◌, subst}
use mathlib.Core.Logic.{◌⊎◌, inl, inr}
use mathlib.Core.List.Memᴰ
use mathlib.Core.List.{List, [], ◌∷◌, ◌++◌, map, Memᴰ}
use Prim.Native.Nat.{ℕ}
use Rattle.model.specs.Ranges.{Each}
use Rattle.model_tidy.specs.Groups.{Distinct}
use Rattle.model_tidy.specs.Order.{none_moved, one_kept, two_swapped, moved_twice, Permuted}
use Rattle.model_tidy.specs.Unmoved.{moved_each}

module _ (A : Type 0) where
  pub permuted_same : (xs : List A) → Permuted A xs xs
  permuted_same [] = none_moved
  permuted_same (x ∷ xs) = one_kept refl (permuted_same xs)

  permuted_front : (xs : List A) {us vs : List A} → Permuted A us vs → Permuted A (xs ++ us) (xs ++ vs)
  permuted_front [] m = m
  permuted_front (x ∷ xs) m = one_kept refl (permuted_front xs m)

  pub permuted_append : {xs ys : List A} (us vs : List A) → Permuted A xs ys → Permuted A us vs → Permuted A (xs ++ us) (ys ++ vs)
  permuted_append us vs none_moved n = n
  permuted_append us vs (one_kept e m) n = one_kept e (permuted_append us vs m n)
  permuted_append us vs (two_swapped {x = x} {y = y} {xs = xs}) n =
      moved_twice two_swapped (permuted_front (y ∷ x ∷ xs) n)
  permuted_append us vs (moved_twice m k) n = moved_twice (permuted_append us us m (permuted_same us)) (permuted_append us vs k n)

  -- a member moved behind a list
  moved_behind : (x : A) (ys zs : List A) → Permuted A (x ∷ (ys ++ zs)) (ys ++ (x ∷ zs))
  moved_behind x [] zs = permuted_same (x ∷ zs)
  moved_behind x (y ∷ ys) zs = moved_twice two_swapped (one_kept refl (moved_behind x ys zs))

  -- two lists exchanged
  pub exchanged : (xs ys zs : List A) → Permuted A (xs ++ (ys ++ zs)) (ys ++ (xs ++ zs))
  exchanged [] ys zs = permuted_same (ys ++ zs)
  exchanged (x ∷ xs) ys zs = moved_twice (one_kept refl (exchanged xs ys zs)) (moved_behind x ys (xs ++ zs))

  -- members stay members
  pub permuted_mem : (x : A) {xs ys : List A} → Permuted A xs ys → Memᴰ x xs → Memᴰ x ys
  permuted_mem x none_moved m = m
  permuted_mem x (one_kept {x = y} {y = z} {xs = xs} {ys = ys} e n) m = go (Memᴰ.cases_cons m) (λ k. permuted_mem x n k)
    where
      go : (x ≡ y) ⊎ Memᴰ x xs → (Memᴰ x xs → Memᴰ x ys) → Memᴰ x (z ∷ ys)
      go (inl q) ih = Memᴰ.head (q ∙ e)
      go (inr k) ih = Memᴰ.tail (ih k)
  permuted_mem x (two_swapped {x = y} {y = z} {xs = xs}) m = go (Memᴰ.cases_cons m)
    where
      rest : (x ≡ z) ⊎ Memᴰ x xs → Memᴰ x (z ∷ y ∷ xs)
      rest (inl q) = Memᴰ.head q
      rest (inr k) = Memᴰ.tail (Memᴰ.tail k)

      go : (x ≡ y) ⊎ Memᴰ x (z ∷ xs) → Memᴰ x (z ∷ y ∷ xs)
      go (inl q) = Memᴰ.tail (Memᴰ.head q)
      go (inr k) = rest (Memᴰ.cases_cons k)
  permuted_mem x (moved_twice n k) m = permuted_mem x k (permuted_mem x n m)

  pub permuted_back : {xs ys : List A} → Permuted A xs ys → Permuted A ys xs
  permuted_back none_moved = none_moved
  permuted_back (one_kept e m) = one_kept (sym e) (permuted_back m)
  permuted_back two_swapped = two_swapped
  permuted_back (moved_twice m n) = moved_twice (permuted_back n) (permuted_back m)

-- what a function makes of the members
pub permuted_map : (A B : Type 0) (f : A → B) {xs ys : List A} → Permuted A xs ys → Permuted B (map f xs) (map f ys)
permuted_map A B f none_moved = none_moved
permuted_map A B f (one_kept e m) = one_kept (ap f e) (permuted_map A B f m)
permuted_map A B f two_swapped = two_swapped
permuted_map A B f (moved_twice m n) = moved_twice (permuted_map A B f m) (permuted_map A B f n)

-- different numbers stay different
pub permuted_distinct : {xs ys : List ℕ} → Permuted ℕ xs ys → Distinct xs → Distinct ys
permuted_distinct none_moved d = tt
permuted_distinct (one_kept {x = x} {y = y} {xs = xs} {ys = ys} e m) d = (
  subst (λ (z : ℕ). Each (λ v. ¬ (z ≡ v)) ys) e
      (moved_each ℕ (λ (u v : ℕ). u ≡ v) (λ v. ¬ (x ≡ v)) (λ u v q n k. n (k ∙ sym q)) m d.0),
  permuted_distinct m d.1,
)
permuted_distinct two_swapped d = (((λ q. d.0.0 (sym q)), d.1.0), (d.0.1, d.1.1))
permuted_distinct (moved_twice m n) d = permuted_distinct n (permuted_distinct m d)
