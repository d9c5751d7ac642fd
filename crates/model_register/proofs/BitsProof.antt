-- A set's members in its bytes.
-- Assumes nothing.
use mathlib.Core.Path.{◌≡◌, sym, ap, ap₂, ◌∙◌}
use mathlib.Core.Bool.{true}
use mathlib.Core.List.{List, [], ◌∷◌}
use Prim.Native.Nat.{ℕ, zero, suc, ◌+◌, ◌-◌, ◌*◌, ◌/◌, ◌%◌, ◌<◌}
use native.Mathlib.Decide.{dec_lt}
use native.Mathlib.Omega.{arith}
use lib.Dec.{ltb}
use lib.ListN.{get_or}
use lib.Pow.{are_bytes}
use borrow.Author.Tests.{ltb-true}
use Rattle.model.specs.Sets.{has}
use Rattle.model.specs.Bytes.{number, bytes_of}
use Rattle.model_laws.proofs.Bools.{and_l, and_r}
use Rattle.model_laws.proofs.SetLaws.{has_low, has_high}
use Rattle.model_laws.proofs.UnionLaws.{has_none}
use Rattle.model_register.specs.Bits.{BitsAre}

-- a member of one of the first eight numbers is in the first byte, any other in the bytes behind it
in-first : (b : ℕ) (bs : List ℕ) (p : ℕ) → p < 8 → has (get_or (b ∷ bs) (p / 8) 0) (p % 8) ≡ has b p
in-first b bs p l =
    let x : p / 8 ≡ 0 = omega arith in
    let y : p % 8 ≡ p = omega arith in
    ap₂ (λ (i j : ℕ). has (get_or (b ∷ bs) i 0) j) x y

behind-first : (b : ℕ) (bs : List ℕ) (p : ℕ) → ¬ (p < 8) → has (get_or (b ∷ bs) (p / 8) 0) (p % 8) ≡ has (get_or bs ((p - 8) / 8) 0) ((p - 8) % 8)
behind-first b bs p l =
    let x : p / 8 ≡ suc ((p - 8) / 8) = omega arith in
    let y : p % 8 ≡ (p - 8) % 8 = omega arith in
    ap₂ (λ (i j : ℕ). has (get_or (b ∷ bs) i 0) j) x y

-- and so of a number's low eight digits and the others
above : (v p : ℕ) → ¬ (p < 8) → has v p ≡ has (v / 256) (p - 8)
above v p l = let x : p ≡ 8 + (p - 8) = omega arith in ap (has v) x ∙ has_high v 8 (p - 8)

read : (bs : List ℕ) → are_bytes bs ≡ true → (p : ℕ) → has (number bs) p ≡ has (get_or bs (p / 8) 0) (p % 8)
unfolding number
read [] e p = has_none p ∙ sym (has_none (p % 8))
read (b ∷ bs) e p =
    let k = ltb-true b 256 (and_l (ltb b 256) (are_bytes bs) e) in
    let n = number bs in
    let low : (b + 256 * n) % 256 ≡ b = omega arith in
    let high : (b + 256 * n) / 256 ≡ n = omega arith in
    elim (dec_lt p 8) [
      | yes l ↦ sym (has_low (b + 256 * n) 8 p l) ∙ ap (λ (v : ℕ). has v p) low ∙ sym (in-first b bs p l)
      | no l ↦
          above (b + 256 * n) p l ∙ ap (λ (v : ℕ). has v (p - 8)) high ∙ read bs (and_r (ltb b 256) (are_bytes bs) e) (p - 8)
          ∙ sym (behind-first b bs p l)
    ]

written : (n v p : ℕ) → p < 8 * n → has (get_or (bytes_of n v) (p / 8) 0) (p % 8) ≡ has v p
unfolding bytes_of
written zero v p l = absurd (omega arith)
written (suc n) v p l =
    elim (dec_lt p 8) [
      | yes i ↦ in-first (v % 256) (bytes_of n (v / 256)) p i ∙ has_low v 8 p i
      | no i ↦ behind-first (v % 256) (bytes_of n (v / 256)) p i ∙ written n (v / 256) (p - 8) (omega arith) ∙ sym (above v p i)
    ]

pub bits_are : BitsAre
bits_are = record { read = read; written = written }
