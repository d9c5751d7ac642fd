-- The bits of shifted words.
-- Assumes nothing.
use mathlib.Core.Path.{◌≡◌, sym, ap, ◌∙◌}
use mathlib.Core.Bool.{false}
use Prim.Native.Nat.{ℕ, suc, ◌+◌, ◌-◌, ◌*◌, ◌/◌, ◌%◌, ◌^◌, ◌≤◌, ◌<◌}
use native.Mathlib.Nat.{mul_assoc, mul-mod_left, pow-suc}
use native.Mathlib.Omega.{arith}
use lib.Dec.{eqb}
use lib.Pow.{pow-add, shl-shr}
use Rattle.model.specs.Sets.{has}
use Rattle.model_laws.proofs.SetLaws.{has_low, has_high}

module _ (x j c : ℕ) where
  -- shifted down
  pub has_shr : has (x / 2 ^ j) c ≡ has x (c + j)
  has_shr = sym (has_high x j c) ∙ ap (has x) (omega arith)

  -- shifted up: above, and below
  up : j ≤ c → has (x * 2 ^ j) c ≡ has x (c - j)
  up h =
      let e : c ≡ j + (c - j) = omega arith in
      ap (has (x * 2 ^ j)) e ∙ has_high (x * 2 ^ j) j (c - j) ∙ ap (λ (y : ℕ). has y (c - j)) (shl-shr x j)

  none : c < j → has (x * 2 ^ j) c ≡ false
  unfolding has
  none h =
      let d = j - suc c in
      let e : j ≡ suc d + c = omega arith in
      ap (λ (y : ℕ). eqb (y / 2 ^ c % 2) 1)
      (ap (λ (y : ℕ). x * 2 ^ y) e ∙ ap (λ (y : ℕ). x * y) (pow-add 2 (suc d) c) ∙ sym (mul_assoc x (2 ^ suc d) (2 ^ c)))
      ∙ ap (λ (y : ℕ). eqb (y % 2) 1)
      (shl-shr (x * 2 ^ suc d) c ∙ ap (λ (y : ℕ). x * y) (pow-suc 2 d) ∙ sym (mul_assoc x (2 ^ d) 2))
      ∙ ap (λ (y : ℕ). eqb y 1) (mul-mod_left (x * 2 ^ d) 2)

  -- in a word
  pub has_shl : c < 64 → j ≤ c → has (x * 2 ^ j % 2 ^ 64) c ≡ has x (c - j)
  has_shl i h = has_low (x * 2 ^ j) 64 c i ∙ up h

  pub has_shl_none : c < 64 → c < j → has (x * 2 ^ j % 2 ^ 64) c ≡ false
  has_shl_none i h = has_low (x * 2 ^ j) 64 c i ∙ none h
