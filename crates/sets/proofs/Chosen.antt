-- A set made by a test, number by number.
-- Assumes nothing.
use mathlib.Core.Path.{◌≡◌, refl, sym, ap, ap₂, ◌∙◌}
use mathlib.Core.Bool.{Bool, true, false}
use Prim.Native.Nat.{ℕ, ◌+◌, ◌^◌}
use native.Mathlib.Numerals.{add-one}
use lib.Bits.{or_zero_r}
use Rattle.model.specs.Tests.{pick}
use Rattle.model.specs.Sets.{union, with, set_of}

pub set_of_none : (f : ℕ → Bool) → 0 ≡ set_of f 0
unfolding set_of
set_of_none f = refl

-- b tells whether a is taken
pub set_of-next : (f : ℕ → Bool) (a found next : ℕ) (b : Bool) → found ≡ set_of f a → b ≡ f a → next ≡ pick b (with found a) found
    → next ≡ set_of f (a + 1)
unfolding set_of pick
set_of-next f a found next b e t q =
    q ∙ one b ∙ ap₂ (λ (x : ℕ) (c : Bool). union x (pick c (2 ^ a) 0)) e t ∙ ap (set_of f) (sym (add-one a))
  where
    one : (c : Bool) → pick c (with found a) found ≡ union found (pick c (2 ^ a) 0)
    one true = refl
    one false = sym (or_zero_r found)
