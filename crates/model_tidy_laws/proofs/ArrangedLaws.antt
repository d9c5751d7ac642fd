-- Laws of the order of whole entries, and of ascending lists.
-- Assumes nothing.
use mathlib.Core.Path.{◌≡◌, refl, sym, ap, ap₂, ◌∙◌, subst}
use mathlib.Core.Logic.{◌⊎◌, inl, inr}
use mathlib.Core.List.Memᴰ
use mathlib.Core.List.{List, [], ◌∷◌, ◌++◌, map, Memᴰ}
use Prim.Native.Nat.{ℕ, suc, ◌+◌, ◌≤◌, ◌<◌}
use native.Mathlib.Omega.{arith}
use lib.ListN.{length, length-append}
use Rattle.model.specs.Ranges.{Each, Ascending}
use Rattle.model_tidy.specs.Groups.{Group, spread}
use Rattle.model_tidy.specs.Arranged.{Standing, standing_in, By, Precedes, Comes}
use Rattle.model_laws.proofs.Eachs.{each_by, each_append, each_mem}

-- ---- the order is strict
by_trans : (a b c : ℕ) {P Q R : Type 0} → (P → Q → R) → By a b P → By b c Q → By a c R
by_trans a b c f (inl h) (inl k) = inl (omega arith)
by_trans a b c f (inl h) (inr (e, k)) = inl (omega arith)
by_trans a b c f (inr (e, h)) (inl k) = inl (omega arith)
by_trans a b c f (inr (e, h)) (inr (d, k)) = inr (e ∙ d, f h k)

by_irrefl : (a : ℕ) {P : Type 0} → ¬ P → ¬ By a a P
by_irrefl a f (inl h) = omega arith
by_irrefl a f (inr (e, h)) = f h

pub precedes_trans : (x y z : Standing) → Precedes x y → Precedes y z → Precedes x z
precedes_trans x y z =
    by_trans x.sort y.sort z.sort
    (by_trans x.first y.first z.first (by_trans x.second y.second z.second (λ h k. omega arith)))

pub precedes_irrefl : (x : Standing) → ¬ Precedes x x
precedes_irrefl x = by_irrefl x.sort (by_irrefl x.first (by_irrefl x.second (λ h. omega arith)))

pub comes_trans : (g k j : Group) → Comes g k → Comes k j → Comes g j
comes_trans g k j = precedes_trans (standing_in g) (standing_in k) (standing_in j)

pub comes_irrefl : (g : Group) → ¬ Comes g g
comes_irrefl g = precedes_irrefl (standing_in g)

-- ---- ascending lists
module _ {A : Type 0} (R : A → A → Type 0) where
  pub ascending_join : (xs ys : List A) → Ascending R xs → Ascending R ys → Each (λ x. Each (R x) ys) xs → Ascending R (xs ++ ys)
  ascending_join [] ys a b e = b
  ascending_join (x ∷ xs) ys a b e = (each_append (R x) xs ys a.0 e.0, ascending_join xs ys a.1 b e.1)

  -- what a function makes of a list that ascends by another order, whose members all have a property
  pub ascending_made : {B : Type 0} (S : B → B → Type 0) (P : B → Type 0) (f : B → A) → ((b c : B) → P b → P c → S b c → R (f b) (f c)) → (bs : List B)
      → Each P bs → Ascending S bs → Ascending R (map f bs)
  ascending_made S P f up [] p a = tt
  ascending_made {B} S P f up (b ∷ bs) p a = (over bs p.1 a.0, ascending_made S P f up bs p.1 a.1)
    where
      over : (cs : List B) → Each P cs → Each (S b) cs → Each (R (f b)) (map f cs)
      over [] q e = tt
      over (c ∷ cs) q e = (up b c p.0 q.0 e.0, over cs q.1 e.1)

-- ---- whole entries of ascending sorts
pub sorts_apart : (n : ℕ) (xs ys : List Group) → Each (λ g. (standing_in g).sort ≡ n) xs → Each (λ g. n < (standing_in g).sort) ys
    → Each (λ g. Each (Comes g) ys) xs
sorts_apart n xs ys e f =
    each_by (λ g. (standing_in g).sort ≡ n) (λ g. Each (Comes g) ys)
    (λ g q. each_by (λ k. n < (standing_in k).sort) (Comes g) (λ k l. inl (omega (arith, q, l))) ys f) xs e

-- ---- an ascending list within another
weight_join : (g : Group) (gs : List Group) → length (spread (g ∷ gs)) ≡ suc (length g.members + length (spread gs))
unfolding spread
weight_join g gs = ap suc (length-append g.members (spread gs))

abbrev Within : List Group → List Group → Type 0
Within xs ys = (g : Group) → Memᴰ g xs → Memᴰ g ys

-- what comes behind the first of an ascending list is not the first
rest_within : (x y : Group) (xs ys : List Group) → x ≡ y → Ascending Comes (x ∷ xs) → Within (x ∷ xs) (y ∷ ys) → Within xs ys
rest_within x y xs ys e a f g m = go (Memᴰ.cases_cons (f g (Memᴰ.tail m)))
  where
    go : (g ≡ y) ⊎ Memᴰ g ys → Memᴰ g ys
    go (inl q) = absurd (comes_irrefl x (subst (Comes x) (q ∙ sym e) (each_mem (Comes x) xs a.0 g m)))
    go (inr k) = k

-- where the first of the one is not the first of the other, all are behind it
all-behind : (x y : Group) (xs ys : List Group) → Ascending Comes (x ∷ xs) → Ascending Comes (y ∷ ys) → Memᴰ x ys → Within (x ∷ xs) (y ∷ ys)
    → Within (x ∷ xs) ys
all-behind x y xs ys a b n f g m = go (Memᴰ.cases_cons (f g m)) (Memᴰ.cases_cons m)
  where
    before : Comes y x
    before = each_mem (Comes y) ys b.0 x n

    go : (g ≡ y) ⊎ Memᴰ g ys → (g ≡ x) ⊎ Memᴰ g xs → Memᴰ g ys
    go (inr k) c = k
    go (inl q) (inl r) = absurd (comes_irrefl x (subst (λ (z : Group). Comes z x) (sym q ∙ r) before))
    go (inl q) (inr k) =
        absurd (comes_irrefl x (comes_trans x y x (subst (Comes x) q (each_mem (Comes x) xs a.0 g k)) before))

-- it has no more words
fewer-words : (ys xs : List Group) → Ascending Comes xs → Ascending Comes ys → Within xs ys → length (spread xs) ≤ length (spread ys)
unfolding spread
fewer-words [] [] a b f = omega arith
fewer-words [] (x ∷ xs) a b f = absurd (Memᴰ.not-nil (f x (Memᴰ.head refl)))
fewer-words (y ∷ ys) [] a b f = omega arith
fewer-words (y ∷ ys) (x ∷ xs) a b f =
    go (Memᴰ.cases_cons (f x (Memᴰ.head refl))) (λ w. fewer-words ys xs a.1 b.1 w) (λ w. fewer-words ys (x ∷ xs) a b.1 w)
  where
    go : (x ≡ y) ⊎ Memᴰ x ys → (Within xs ys → length (spread xs) ≤ length (spread ys))
        → (Within (x ∷ xs) ys → length (spread (x ∷ xs)) ≤ length (spread ys)) → length (spread (x ∷ xs)) ≤ length (spread (y ∷ ys))
    go (inl q) ih jh =
        let w = ih (rest_within x y xs ys q a f) in
        let e : length x.members ≡ length y.members = ap (λ (g : Group). length g.members) q in
        omega (arith, weight_join x xs, weight_join y ys)
    go (inr k) ih jh = let w = jh (all-behind x y xs ys a b k f) in omega (arith, weight_join y ys)

-- and is the whole where it has as many
pub within_same : (ys xs : List Group) → Ascending Comes xs → Ascending Comes ys → Within xs ys → length (spread ys) ≤ length (spread xs) → xs ≡ ys
within_same [] [] a b f l = refl
within_same [] (x ∷ xs) a b f l = absurd (Memᴰ.not-nil (f x (Memᴰ.head refl)))
within_same (y ∷ ys) [] a b f l = absurd (none l)
  where
    none : length (spread (y ∷ ys)) ≤ length (spread []) → ⊥
    none l = unfold spread in omega arith
within_same (y ∷ ys) (x ∷ xs) a b f l =
    go (Memᴰ.cases_cons (f x (Memᴰ.head refl))) (λ w n. within_same ys xs a.1 b.1 w n)
  where
    go : (x ≡ y) ⊎ Memᴰ x ys → (Within xs ys → length (spread ys) ≤ length (spread xs) → xs ≡ ys) → ◌≡◌ {A = List Group} (x ∷ xs) (y ∷ ys)
    go (inl q) ih =
        let e : length x.members ≡ length y.members = ap (λ (g : Group). length g.members) q in
        ap₂ {C = List Group} (λ (g : Group) (gs : List Group). g ∷ gs) q
        (ih (rest_within x y xs ys q a f) (omega (arith, weight_join x xs, weight_join y ys)))
    go (inr k) ih =
        let w = fewer-words ys (x ∷ xs) a b.1 (all-behind x y xs ys a b k f) in absurd (omega (arith, weight_join y ys))
