-- An exclusion keeps its members: one more move that is none, and a fact that is false of a definition by which entries
-- move too freely, as those of specs/Unmoved are.
-- Assumes nothing.
use Rattle.std.specs.Prelude.{◌≡◌, List, [], ◌∷◌, ◌++◌, ℕ, get_or, length, drop}
use Rattle.std.proofs.Common.{sym, ap, ◌∙◌, arith}
use Rattle.model.specs.Tests.{pick}
use Rattle.model.specs.Bytes.{bytes_of}
use Rattle.model.specs.Image.{word_at, behind_head, kind_of, decode}
use Rattle.model.specs.Words.{exclusion_word, member_word, image_bytes}
use Rattle.model.specs.OwnWords.{words_from}
use Rattle.model.specs.Ranges.{Each}
use Rattle.model_tidy.specs.Groups.{words_behind, entry_of, Group, spread, due_behind, Whole}
use Rattle.model_tidy.specs.Order.{SameGroup, Reordered}
use Rattle.model_tidy.specs.Unmoved.{moved_length, moved_each, some_left}

-- a group moved about, its members too, has as many members as before
pub whole_moved : (g k : Group) → SameGroup g k → Whole g → Whole k
whole_moved g k same whole =
    sym (moved_length ℕ (λ (x y : ℕ). x ≡ y) same.members) ∙ whole ∙ ap (λ (w : ℕ). due_behind (entry_of w)) same.word

-- an exclusion word for one member, with the end word behind it, begins no whole group
short_of_one : (gs : List Group) (last end : ℕ) → Each Whole gs → ¬ (exclusion_word 0 2 1 ∷ end ∷ [] ≡ spread gs ++ (last ∷ []))
unfolding spread exclusion_word decode kind_of due_behind pick
short_of_one [] last end whole e = let n = ap length e in omega (arith, n)
short_of_one (g ∷ gs) last end whole e =
    let one = whole.0 ∙ ap (λ (w : ℕ). due_behind (entry_of w)) (sym (ap (λ xs. get_or xs 0 0) e)) in
    go g.members one (ap (drop 1) e)
  where
    go : (ms : List ℕ) → length ms ≡ 1 → end ∷ [] ≡ (ms ++ spread gs) ++ (last ∷ []) → ⊥
    go [] n h = omega (arith, n)
    go (m ∷ []) n h = some_left (spread gs) last (ap (drop 1) h)
    go (m ∷ k ∷ ms) n h = omega (arith, n)

-- nor do these two behind a member word
short_behind : (gs : List Group) (last end : ℕ) → Each Whole gs → ¬ (member_word 0 ∷ exclusion_word 0 2 1 ∷ end ∷ [] ≡ spread gs ++ (last ∷ []))
unfolding spread member_word decode due_behind pick
short_behind [] last end whole e = let n = ap length e in omega (arith, n)
short_behind (g ∷ gs) last end whole e =
    let none = whole.0 ∙ ap (λ (w : ℕ). due_behind (entry_of w)) (sym (ap (λ xs. get_or xs 0 0) e)) in
    go g.members none (ap (drop 1) e)
  where
    go : (ms : List ℕ) → length ms ≡ 0 → exclusion_word 0 2 1 ∷ end ∷ [] ≡ (ms ++ spread gs) ++ (last ∷ []) → ⊥
    go [] n h = short_of_one gs last end whole.1 h
    go (m ∷ ms) n h = omega (arith, n)

-- an exclusion is not moved away from its member
pub exclusion_kept : ¬ Reordered (image_bytes (1 ∷ exclusion_word 0 2 1 ∷ member_word 0 ∷ 3 ∷ [])) (image_bytes
    (1 ∷ member_word 0 ∷ exclusion_word 0 2 1 ∷ 3 ∷ []))
unfolding words_behind words_from behind_head word_at image_bytes bytes_of member_word exclusion_word
exclusion_kept order =
    short_behind order.to.groups order.to.last 3 (moved_each Group SameGroup Whole whole_moved order.moved order.whole) order.to.words
