-- The list of a set's subsets has every one of them.
-- Assumes nothing.
use mathlib.Core.Path.{◌≡◌, refl, sym, ap, ap₂, ◌∙◌}
use mathlib.Core.Bool.{true}
use mathlib.Core.List.Memᴰ
use mathlib.Core.List.{List, ◌++◌, map, Memᴰ}
use Prim.Native.Nat.{ℕ, zero, suc, ◌+◌, ◌-◌, ◌*◌, ◌/◌, ◌%◌, ◌^◌, ◌≤◌, ◌<◌}
use native.Mathlib.Nat.{pow-suc, mod-lt, zero-mul, one-mul, zero-add, add_comm}
use native.Mathlib.Omega.{arith}
use native.Mathlib.Decide.{dec_lt}
use lib.Dec.{lit<}
use lib.Pow.{pow_pos, split}
use lib.Bits.{bit_and, and_block, and_le_l, and_mask, and_comm}
use borrow.Author.Tests.{eqb-true, eq-eqb}
use Rattle.model.specs.Tests.{pick}
use Rattle.model.specs.Sets.{has, within, subsets}
use Rattle.model_laws.proofs.Bools.{pick-case}

-- ---- a set t of members below n, with or without the member n
module _ (n s t : ℕ) (h : t < 2 ^ n) where
  -- s cut at n, met with t and a top member or none
  cut : (d : ℕ) → bit_and (d * 2 ^ n + t) s ≡ bit_and d (s / 2 ^ n) * 2 ^ n + bit_and t (s % 2 ^ n)
  cut d = rw (split s n) at (and_block n d (s / 2 ^ n) t (s % 2 ^ n) h (mod-lt s (pow_pos n)))

  low_within : bit_and t (s % 2 ^ n) ≡ bit_and t s
  low_within = sym (simp (zero-mul, zero-add) at (cut 0))

  top_bit : bit_and 1 (s / 2 ^ n) ≡ s / 2 ^ n % 2
  top_bit = and_comm 1 (s / 2 ^ n) ∙ and_mask (s / 2 ^ n) 1

  top-inter : bit_and (t + 2 ^ n) s ≡ s / 2 ^ n % 2 * 2 ^ n + bit_and t s
  top-inter =
      ap (λ (x : ℕ). bit_and x s) (add_comm t (2 ^ n) ∙ ap (λ (x : ℕ). x + t) (sym (one-mul (2 ^ n)))) ∙ cut 1
      ∙ ap₂ (λ (x y : ℕ). x * 2 ^ n + y) top_bit low_within

  weigh : (d c : ℕ) → c ≤ t → d < 2 → d * 2 ^ n + c ≡ t + 2 ^ n → (d ≡ 1) × (c ≡ t)
  weigh zero c k hd e = let q = simp zero-mul at e in (omega arith, omega arith)
  weigh (suc zero) c k hd e = let q = simp one-mul at e in (refl, omega arith)
  weigh (suc (suc d)) c k hd e = absurd (omega arith)

  -- t with n lies within s only where s has n and t lies within it
  top_within : within (t + 2 ^ n) s ≡ true → (has s n ≡ true) × (within t s ≡ true)
  unfolding within has
  top_within e =
      let w =
      weigh (s / 2 ^ n % 2) (bit_and t s) (and_le_l t s) (mod-lt (s / 2 ^ n) (lit< tt))
      (sym top-inter ∙ eqb-true (bit_and (t + 2 ^ n) s) (t + 2 ^ n) e) in
      (eq-eqb (s / 2 ^ n % 2) 1 w.0, eq-eqb (bit_and t s) t w.1)

-- the subsets of s below n, and those with n too
abbrev doubled : ℕ → List ℕ → List ℕ
doubled n l = l ++ map (λ (x : ℕ). x + 2 ^ n) l

-- every set of members below n that lies within s is listed
pub in-subsets : (n s t : ℕ) → t < 2 ^ n → within t s ≡ true → Memᴰ t (subsets n s)
unfolding subsets pick
in-subsets zero s t h e = let q : t ≡ 0 = omega arith in Memᴰ.head q
in-subsets (suc n) s t h e =
    elim (dec_lt t (2 ^ n)) [
      | yes k ↦
          pick-case (Memᴰ t) (has s n) (doubled n (subsets n s)) (subsets n s) (λ _. Memᴰ.append_left _ (in-subsets n s t k e))
          (λ _. in-subsets n s t k e)
      | no k ↦
          let r = t - 2 ^ n in
          let a : r < 2 ^ n = omega (arith, pow-suc 2 n) in
          let q : r + 2 ^ n ≡ t = omega arith in
          let w = top_within n s r a (rw q e) in
          Memᴰ.cast (sym q) (rw w.0 (Memᴰ.append_right (subsets n s) (Memᴰ.map (λ (x : ℕ). x + 2 ^ n) (in-subsets n s r a w.1))))
    ]
