-- Laws of inclusion between sets of any width, and of single members put in and taken out by sum and difference.
-- Assumes nothing.
use mathlib.Core.Path.{◌≡◌, sym, ap, ◌∙◌}
use mathlib.Core.Logic.{inl, inr}
use mathlib.Core.Bool.{true, false}
use Prim.Native.Nat.{ℕ, ◌+◌, ◌-◌, ◌/◌, ◌%◌, ◌^◌}
use native.Mathlib.Nat.{mod-lt}
use native.Mathlib.Omega.{arith}
use lib.Dec.{eqb}
use lib.Pow.{pow_pos}
use lib.Bits.{bit_xor, or_disjoint, xor_add_and, xor_shr, xor_mod, xor_zero_r}
use borrow.Author.Tests.{eqb-false, ne_eqb}
use Rattle.model.specs.Sets.{has, union, inter, with, within}
use Rattle.model_laws.proofs.Bools.{not_both, bool_ext}
use Rattle.model_laws.proofs.SetLaws.{has_power, power_only, union-cases, union_l, union_r, inter-parts, inter_both, within_has}
use Rattle.model_laws.proofs.AnyWidth.{same_sets, no_members, within_iff}
use Rattle.model_laws.proofs.UnionLaws.{has_none}

-- every set lies within itself
pub within_refl : (a : ℕ) → within a a ≡ true
within_refl a = (within_iff a a).1 (λ k e. e)

-- inclusion is transitive
pub within_trans : (a b c : ℕ) → within a b ≡ true → within b c ≡ true → within a c ≡ true
within_trans a b c v w = (within_iff a c).1 (λ k e. within_has b c w k (within_has a b v k e))

-- the empty set lies within every set
pub none_within : (a : ℕ) → within 0 a ≡ true
none_within a = (within_iff 0 a).1 (λ k e. not_both (has 0 k) e (has_none k))

-- a set lies within its union with another
pub within_union_l : (a b : ℕ) → within a (union a b) ≡ true
within_union_l a b = (within_iff a (union a b)).1 (union_l a b)

-- on either side
pub within_union_r : (a b : ℕ) → within b (union a b) ≡ true
within_union_r a b = (within_iff b (union a b)).1 (union_r a b)

-- a union lies within what both sets lie within
pub union-within : (a b c : ℕ) → within a c ≡ true → within b c ≡ true → within (union a b) c ≡ true
union-within a b c v w =
    (within_iff (union a b) c).1 (λ k e. elim (union-cases a b k e) [ inl h ↦ within_has a c v k h | inr h ↦ within_has b c w k h ])

-- what a set has in common with a smaller one
pub inter-within : (s a b : ℕ) → within a b ≡ true → within (inter s a) (inter s b) ≡ true
inter-within s a b w =
    (within_iff (inter s a) (inter s b)).1 (λ k e. let f = inter-parts s a k e in inter_both s b k f.0 (within_has a b w k f.1))

-- ---- a member put in by a sum, where it is none yet
module _ (s k : ℕ) (out : has s k ≡ false) where
  -- the set and the single member have nothing in common
  apart : inter s (2 ^ k) ≡ 0
  apart =
      no_members (inter s (2 ^ k))
      (λ j e. let w = inter-parts s (2 ^ k) j e in not_both (has s k) (rw (power_only k j w.1) at w.0) out)

  -- the sum is the set with the member
  pub add_member : s + 2 ^ k ≡ with s k
  add_member = sym (or_disjoint s (2 ^ k) apart)

-- ---- a member taken out by a difference
module _ (s k : ℕ) (member : has s k ≡ true) where
  -- what the set and the single member have in common is the member
  common : inter s (2 ^ k) ≡ 2 ^ k
  common =
      same_sets (inter s (2 ^ k)) (2 ^ k)
      (λ j. bool_ext _ _ (λ e. (inter-parts s (2 ^ k) j e).1) (λ e. inter_both s (2 ^ k) j (rw (power_only k j e) member) e))

  -- the difference is the set without the member
  difference : s - 2 ^ k ≡ bit_xor s (2 ^ k)
  difference = omega (arith, xor_add_and s (2 ^ k), common)

  -- the others stay
  pub drop_member : (j : ℕ) → (j ≡ k → ⊥) → has (s - 2 ^ k) j ≡ has s j
  unfolding has
  drop_member j n =
      let out : eqb (2 ^ k / 2 ^ j % 2) 1 ≡ false = has_power k j ∙ ne_eqb j k n in
      let low : 2 ^ k / 2 ^ j % 2 ≡ 0 = omega (arith, mod-lt (2 ^ k / 2 ^ j) (pow_pos 1), eqb-false (2 ^ k / 2 ^ j % 2) 1 out) in
      ap (λ (x : ℕ). eqb (x / 2 ^ j % 2) 1) difference
      ∙ ap (λ (x : ℕ). eqb (x % 2) 1) (xor_shr s (2 ^ k) j)
      ∙ ap (λ (x : ℕ). eqb x 1) (xor_mod (s / 2 ^ j) (2 ^ k / 2 ^ j) 1 ∙ ap (bit_xor (s / 2 ^ j % 2)) low ∙ xor_zero_r (s / 2 ^ j % 2))
