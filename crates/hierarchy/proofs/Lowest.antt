-- A number and the one before it have in common what is above the lowest digit set: a set without its lowest member is
-- what it has in common with the number before it.
-- Assumes nothing.
use mathlib.Core.Path.{◌≡◌, refl, sym, subst}
use Prim.Native.Nat.{ℕ, zero, suc, ◌-◌, ◌/◌, ◌%◌, ◌^◌, ◌<◌}
use native.Mathlib.Nat.{mod-lt}
use native.Mathlib.Numerals.{add-one}
use native.Mathlib.Omega.{arith}
use lib.Dec.{lit<}
use lib.Bits.{bit_and, bit_xor, and_step, xor_step, and_self, xor_zero_r}
use lib.Pow.{shr_lt}
use lib.Count.{count_trailing_zeros, under}

pub and_before : (k n : ℕ) → 0 < n → n < 2 ^ k → bit_and n (n - 1) ≡ bit_xor n (2 ^ count_trailing_zeros k n)
unfolding count_trailing_zeros
and_before zero n p h = absurd (omega arith)
and_before (suc k) n p h =
    go (n % 2) refl (λ q. and_before k (n / 2) q (shr_lt k 1 (subst (λ (x : ℕ). n < 2 ^ x) (sym (add-one k)) h)))
  where
    go : (d : ℕ) → n % 2 ≡ d → (0 < n / 2 → bit_and (n / 2) (n / 2 - 1) ≡ bit_xor (n / 2) (2 ^ count_trailing_zeros k (n / 2)))
        → bit_and n (n - 1) ≡ bit_xor n (2 ^ under d (count_trailing_zeros k (n / 2)))
    go zero e rest =
        let t = count_trailing_zeros k (n / 2) in
        let a : (n - 1) / 2 ≡ n / 2 - 1 = omega arith in
        let b : (n - 1) % 2 ≡ 1 = omega arith in
        let c : 2 ^ suc t / 2 ≡ 2 ^ t = omega arith in
        let d : 2 ^ suc t % 2 ≡ 0 = omega arith in
        rw (and_step n (n - 1), xor_step n (2 ^ suc t), a, b, c, d, e, rest (omega arith))
    go (suc d) e rest =
        let q : n % 2 < 2 = mod-lt n (lit< tt) in
        let o : n % 2 ≡ 1 = omega arith in
        let a : (n - 1) / 2 ≡ n / 2 = omega arith in
        let b : (n - 1) % 2 ≡ 0 = omega arith in
        rw (and_step n (n - 1), xor_step n 1, a, b, o, and_self (n / 2), xor_zero_r (n / 2))
