-- The numbers of an answer's line and those of a clause text are written alike.
-- Assumes nothing.
use mathlib.Core.Path.{◌≡◌, refl, sym, ap, ap₂, ◌∙◌}
use mathlib.Core.Bool.{Bool, true, false}
use mathlib.Core.List.{List, [], ◌∷◌, ◌++◌}
use Prim.Native.Nat.{ℕ, zero, suc, ◌+◌, ◌/◌, ◌%◌, ◌≤◌, ◌<◌}
use native.Mathlib.Nat.{le_refl}
use native.Mathlib.Omega.{arith}
use lib.Dec.{ltb}
use borrow.Author.Tests.{ltb-true, ltb-false, lt-ltb}
use Rattle.model.specs.Tests.{pick}
use Rattle.model.specs.Dimacs.{figure, digits_to, decimal}
use Rattle.model_script.specs.Script.{glyph, digits_of, numeral}

-- a digit below 10
glyph_low : (d : ℕ) → d < 10 → glyph d ≡ 48 + d
unfolding glyph pick
glyph_low d h = rw (lt-ltb d 10 h)

last_digit : (n : ℕ) → figure n ≡ glyph (n % 10)
unfolding figure
last_digit n = sym (glyph_low (n % 10) (omega arith))

only_digit : (n : ℕ) → n < 10 → figure n ≡ glyph n
unfolding figure
only_digit n h = let e : n % 10 ≡ n = omega arith in ap (λ (d : ℕ). 48 + d) e ∙ sym (glyph_low n h)

same_digits : (k n : ℕ) → n ≤ k → digits_to k n ≡ digits_of 10 k n
unfolding digits_to digits_of
same_digits zero n h = ap (λ (d : ℕ). d ∷ []) (only_digit n (omega arith))
same_digits (suc k) n h = go (ltb n 10) refl (same_digits k (n / 10))
  where
    go : (b : Bool) → ltb n 10 ≡ b → (n / 10 ≤ k → digits_to k (n / 10) ≡ digits_of 10 k (n / 10))
        → ◌≡◌ {A = List ℕ} (elim b [ true ↦ figure n ∷ [] | false ↦ digits_to k (n / 10) ++ (figure n ∷ []) ])
        (elim b [ true ↦ glyph n ∷ [] | false ↦ digits_of 10 k (n / 10) ++ (glyph (n % 10) ∷ []) ])
    go true e ih = ap (λ (d : ℕ). d ∷ []) (only_digit n (ltb-true n 10 e))
    go false e ih =
        let l = ltb-false n 10 e in
        ap₂ (λ (ds : List ℕ) (d : ℕ). ds ++ (d ∷ [])) (ih (omega arith)) (last_digit n)

pub decimal_is : (n : ℕ) → decimal n ≡ numeral 10 n
unfolding decimal numeral
decimal_is n = same_digits n n (le_refl n)
