-- Sets of any width, by their members: equality, inclusion, and the union in any order.
-- Assumes nothing.
use mathlib.Core.Path.{◌≡◌, sym}
use mathlib.Core.Logic.{◌↔◌}
use mathlib.Core.Bool.{true}
use Prim.Native.Nat.{ℕ, zero, suc, ◌+◌, ◌%◌, ◌^◌, ◌<◌}
use native.Mathlib.Nat.{pow-suc, lt_of_lt_of_le, mod-lt}
use native.Mathlib.Decide.{dec_lt}
use native.Mathlib.Omega.{arith}
use lib.Pow.{pow_pos, pow_mono}
use Rattle.model.specs.Sets.{has, union, within}
use Rattle.model_laws.proofs.Bools.{bool_ext, not_both, or_swap}
use Rattle.model_laws.proofs.SetLaws.{same_members, within_has, has_within, has-union, has_low}
use Rattle.model_laws.proofs.UnionLaws.{has_none, has_below}

-- every set has some width
pub lt-two-pow : (n : ℕ) → n < 2 ^ n
lt-two-pow zero = pow_pos 0
lt-two-pow (suc n) = let h = lt-two-pow n in omega (arith, pow-suc 2 n)

-- sets with the same members are equal
pub same_sets : (a b : ℕ) → ((k : ℕ) → has a k ≡ has b k) → a ≡ b
same_sets a b h =
    same_members (a + b) a b (lt_of_lt_of_le (lt-two-pow a) (pow_mono (omega arith))) (lt_of_lt_of_le (lt-two-pow b) (pow_mono (omega arith)))
    (λ k l. h k)

-- a set without members is empty
pub no_members : (a : ℕ) → ((k : ℕ) → ¬ (has a k ≡ true)) → a ≡ 0
no_members a h = same_sets a 0 (λ k. bool_ext (has a k) (has 0 k) (λ e. absurd (h k e)) (λ e. not_both (has 0 k) e (has_none k)))

-- a set whose members are below d is one of width d
pub members_below_lem : (d a : ℕ) → ((k : ℕ) → has a k ≡ true → k < d) → a < 2 ^ d
members_below_lem d a h = rw (same_sets a (a % 2 ^ d) same) (mod-lt a (pow_pos d))
  where
    same : (k : ℕ) → has a k ≡ has (a % 2 ^ d) k
    same k =
        elim (dec_lt k d) [
          | yes l ↦ sym (has_low a d k l)
          | no l ↦
              bool_ext (has a k) (has (a % 2 ^ d) k) (λ e. absurd (l (h k e)))
              (λ e. absurd (l (has_below d (a % 2 ^ d) k (mod-lt a (pow_pos d)) e)))
        ]

-- one set lies within another where its members do
pub within_iff : (a b : ℕ) → (within a b ≡ true) ↔ ((k : ℕ) → has a k ≡ true → has b k ≡ true)
within_iff a b = (λ w. within_has a b w, λ h. has_within a a b (lt-two-pow a) (λ k l. h k))

pub union_swap : (x y z : ℕ) → union x (union y z) ≡ union y (union x z)
union_swap x y z = same_sets (union x (union y z)) (union y (union x z)) (λ k. simp has-union (or_swap (has x k) (has y k) (has z k)))
