-- What stands at a place and which place comes after, case by case. The number of words behind the head is b.
-- Assumes nothing.
use mathlib.Core.Path.{◌≡◌, refl, sym, ◌∙◌}
use mathlib.Core.Bool.{Bool, true, false}
use mathlib.Core.List.{List}
use Prim.Native.Nat.{ℕ, ◌+◌, ◌-◌, ◌*◌, ◌<◌, ◌≤◌, ◌^◌}
use lib.Dec.{leb}
use Rattle.std.proofs.Common.{Some, None}
use lib.ListN.{length}
use native.Mathlib.Decide.{dec_le}
use native.Mathlib.Omega.{arith}
use borrow.Author.Tests.{le-leb, lt-leb, leb-false}
use Rattle.model.specs.declared.Word.{Word}
use Rattle.model.specs.Tests.{pick}
use Rattle.model.specs.Image.{word_at, behind_head, decode}
use Rattle.image_reader.specs.Places.{found_at, place_after}

-- before the first word behind the head there is nothing
pub before-first : (s : List ℕ) (place : ℕ) → place < 1 → None ≡ found_at s place
unfolding found_at pick
before-first s place h = simp (lt-leb 1 place h)

-- behind the last word there is nothing
pub behind_last : (s : List ℕ) (b place : ℕ) → b ≡ behind_head s → b < place → None ≡ found_at s place
unfolding found_at pick
behind_last s b place e h = simp (le-leb 1 place (omega (arith, h)), lt-leb place (behind_head s) (omega (arith, e, h)))

-- between them stands the word w decoded, d
pub word_found : (s : List ℕ) (b place w : ℕ) (d : Word) → b ≡ behind_head s → 1 ≤ place → place ≤ b → w ≡ word_at s place → d ≡ decode w
    → Some d ≡ found_at s place
unfolding found_at pick
word_found s b place w d e f h g k = simp (le-leb 1 place f, le-leb place (behind_head s) (omega (arith, e, h)), k, g)

-- where some place f lies behind the head, the bytes of every word up to the last lie in the image
pub word_within : (s : List ℕ) (b f place : ℕ) → b ≡ behind_head s → 1 ≤ f → f ≤ b → place ≤ b → 4 * place + 4 ≤ length s
unfolding behind_head
word_within s b f place e first last h = omega (arith, e, first, last, h)

-- behind the last word a place stays
pub place-stays : (s : List ℕ) (b place : ℕ) → b ≡ behind_head s → b < place → place ≡ place_after s place
unfolding place_after pick
place-stays s b place e h = simp (lt-leb place (behind_head s) (omega (arith, e, h)))

-- up to it a place moves on
pub place_moves : (s : List ℕ) (b place : ℕ) → b ≡ behind_head s → place ≤ b → place + 1 ≡ place_after s place
unfolding place_after pick
place_moves s b place e h = simp (le-leb place (behind_head s) (omega (arith, e, h)))

-- the place moved on is a number of 64 bits, as the image's length is
pub place_fits : (s : List ℕ) (b place : ℕ) → b ≡ behind_head s → length s < 2 ^ 64 → place ≤ b → place + 1 < 2 ^ 64
unfolding behind_head
place_fits s b place e f h = omega (arith, e, f, h)

-- what stands at the place after is what stands one further: where the place stays, there is nothing at either
pub found_after : (s : List ℕ) (place : ℕ) → found_at s (place_after s place) ≡ found_at s (place + 1)
unfolding place_after pick
found_after s place = go (leb place (behind_head s)) refl
  where
    go : (b : Bool) → leb place (behind_head s) ≡ b → found_at s (pick b (place + 1) place) ≡ found_at s (place + 1)
    go true e = refl
    go false e =
        let h = leb-false place (behind_head s) e in
        sym (behind_last s (behind_head s) place refl h) ∙ behind_last s (behind_head s) (place + 1) refl (omega (arith, h))

-- where a word stands at a place, the place moves on, and fewer are left
pub fewer_left : (s : List ℕ) (place after : ℕ) (w : Word) → Some w ≡ found_at s place → after ≡ place_after s place
    → behind_head s + 1 - after < behind_head s + 1 - place
fewer_left s place after w e f =
    elim (dec_le place (behind_head s)) [
      | yes h ↦ omega (arith, f, place_moves s (behind_head s) place refl h)
      | no h ↦ let none = behind_last s (behind_head s) place refl (omega arith) in cc
    ]
