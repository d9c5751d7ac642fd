-- Moves that are none, each a fact that is false of a definition by which entries move too freely: a member stays in
-- its group, the head and the end word stay. That an exclusion keeps its members stands in proofs/Exclusions.
-- Assumes nothing.
use Rattle.std.specs.Prelude.{◌≡◌, refl, List, [], ◌∷◌, ◌++◌, ℕ, suc, ◌+◌, get_or, length, drop}
use Rattle.std.proofs.Common.{ap, ap₂, ◌∙◌, arith}
use Rattle.model.specs.Bytes.{bytes_of}
use Rattle.model.specs.Image.{word_at, behind_head}
use Rattle.model.specs.Words.{member_word, sum_of, image_bytes}
use Rattle.model.specs.OwnWords.{words_from}
use Rattle.model.specs.Ranges.{Each}
use Rattle.model_tidy.specs.Groups.{words_behind, Group, spread}
use Rattle.model_tidy.specs.Order.{Rearranged, none_moved, one_kept, two_swapped, moved_twice, Permuted, SameGroup, Reordered}

-- ---- lists

-- whatever counts as the same member
module _ (A : Type 0) (R : A → A → Type 0) where
  -- as long as before
  pub moved_length : {xs ys : List A} → Rearranged A R xs ys → length xs ≡ length ys
  moved_length none_moved = refl
  moved_length (one_kept e m) = ap suc (moved_length m)
  moved_length two_swapped = refl
  moved_length (moved_twice m n) = moved_length m ∙ moved_length n

  -- what each member has, and the relation carries over
  pub moved_each : (P : A → Type 0) → ((x y : A) → R x y → P x → P y) → {xs ys : List A} → Rearranged A R xs ys → Each P xs → Each P ys
  moved_each P f none_moved e = tt
  moved_each P f (one_kept {x = x} {y = y} r m) e = (f x y r e.0, moved_each P f m e.1)
  moved_each P f two_swapped e = (e.1.0, (e.0, e.1.1))
  moved_each P f (moved_twice m n) e = moved_each P f n (moved_each P f m e)

-- moved about, numbers have the same sum
pub sum_kept : {xs ys : List ℕ} → Permuted ℕ xs ys → sum_of xs ≡ sum_of ys
unfolding sum_of
sum_kept none_moved = refl
sum_kept (one_kept e p) = ap₂ (λ (a b : ℕ). a + b) e (sum_kept p)
sum_kept two_swapped = omega arith
sum_kept (moved_twice p q) = sum_kept p ∙ sum_kept q

-- a member stays in its group: one of role 0 is not one of role 1
pub members_kept : ¬ SameGroup (record { word = 0; members = member_word 0 ∷ [] }) (record { word = 0; members = member_word 1 ∷ [] })
unfolding sum_of member_word
members_kept same = let e = sum_kept same.members in omega arith

-- ---- images

-- the head is not moved
pub head_kept : ¬ Reordered (image_bytes (1 ∷ 2 ∷ 3 ∷ [])) (image_bytes (2 ∷ 1 ∷ 3 ∷ []))
unfolding word_at image_bytes bytes_of
head_kept order = let e = order.head in omega (arith, e)

-- a list with a word behind it is not empty
pub some_left : (xs : List ℕ) (last : ℕ) → ¬ ([] ≡ xs ++ (last ∷ []))
some_left [] last e = let n = ap length e in omega (arith, n)
some_left (x ∷ xs) last e = let n = ap length e in omega (arith, n)

-- one word behind the head is the last
only_last : (gs : List Group) (last w : ℕ) → w ∷ [] ≡ spread gs ++ (last ∷ []) → w ≡ last
unfolding spread
only_last [] last w e = ap (λ xs. get_or xs 0 0) e
only_last (g ∷ gs) last w e = absurd (some_left (g.members ++ spread gs) last (ap (drop 1) e))

-- the end word is not changed
pub end_kept : ¬ Reordered (image_bytes (1 ∷ 2 ∷ [])) (image_bytes (1 ∷ 3 ∷ []))
unfolding words_behind words_from behind_head word_at image_bytes bytes_of
end_kept order =
    let a = only_last order.from.groups order.from.last 2 order.from.words in
    let b = only_last order.to.groups order.to.last 3 order.to.words in
    let e = order.last in
    omega (arith, a, b, e)
