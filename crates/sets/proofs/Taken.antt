-- Laws of a member taken out of a set, and of the lowest member.
-- Assumes nothing.
use mathlib.Core.Path.{◌≡◌, refl, sym, ap, ap₂, subst, ◌∙◌}
use mathlib.Core.Bool.{Bool, true, false, ◌&&◌, ◌||◌, not, and-true, or-false, or-true}
use Prim.Native.Nat.{ℕ, zero, suc, ◌/◌, ◌%◌, ◌^◌, ◌≤◌, ◌<◌, zero-le, suc-le-suc}
use native.Mathlib.Nat.{div-one, mod-lt}
use native.Mathlib.Numerals.{add-one}
use native.Mathlib.Omega.{arith}
use borrow.Author.Tests.{eqb-true, eqb-false, eq-eqb, ne_eqb}
use lib.Dec.{eqb, lit<}
use lib.Bits.{bit_and, bit_xor, xor_shr, xor_mod, xor_lt, or_lt}
use lib.Pow.{pow_pos, pow-lt, shr_lt}
use lib.Count.{count_trailing_zeros, under}
use Rattle.model.specs.Sets.{has, with, count}
use Rattle.model_laws.proofs.SetLaws.{has_power, has-inter, has-with, same_members, count-with, has_half}
use Rattle.sets.specs.Members.{without, lowest_of, Lowest}

-- ---- a member taken out

-- one of two tests holds, and not the other
abbrev pub apart : Bool → Bool → Bool
apart true b = not b
apart false b = b

xor_table : (x y : ℕ) → x < 2 → y < 2 → eqb (bit_xor x y) 1 ≡ apart (eqb x 1) (eqb y 1)
xor_table zero zero hx hy = refl
xor_table zero (suc zero) hx hy = refl
xor_table (suc zero) zero hx hy = refl
xor_table (suc zero) (suc zero) hx hy = refl
xor_table zero (suc (suc y)) hx hy = absurd (omega arith)
xor_table (suc zero) (suc (suc y)) hx hy = absurd (omega arith)
xor_table (suc (suc x)) y hx hy = absurd (omega arith)

-- the members of one of two sets and not of the other
pub has_xor : (a b k : ℕ) → has (bit_xor a b) k ≡ apart (has a k) (has b k)
unfolding has
has_xor a b k =
    ap (λ (x : ℕ). eqb (x % 2) 1) (xor_shr a b k) ∙ ap (λ (x : ℕ). eqb x 1) (xor_mod (a / 2 ^ k) (b / 2 ^ k) 1)
    ∙ xor_table (a / 2 ^ k % 2) (b / 2 ^ k % 2) (mod-lt (a / 2 ^ k) (pow_pos 1)) (mod-lt (b / 2 ^ k) (pow_pos 1))

-- what one set has and another lacks
abbrev pub lacking : ℕ → ℕ → ℕ
lacking a b = bit_xor a (bit_and a b)

pub has-lacking : (a b k : ℕ) → has (lacking a b) k ≡ (has a k && not (has b k))
has-lacking a b k = has_xor a (bit_and a b) k ∙ ap (apart (has a k)) (has-inter a b k) ∙ table (has a k) (has b k)
  where
    table : (x y : Bool) → apart x (x && y) ≡ (x && not y)
    table true y = refl
    table false y = refl

taken_out : (a b : Bool) → (b ≡ true → a ≡ true) → apart a b ≡ (a && not b)
taken_out true b h = refl
taken_out false true h = sym (h refl)
taken_out false false h = refl

-- the members of a set without its member k: the others
pub has-without : (s k j : ℕ) → has s k ≡ true → has (without s k) j ≡ (has s j && not (eqb j k))
unfolding without
has-without s k j m =
    has_xor s (2 ^ k) j ∙ ap (apart (has s j)) (has_power k j)
    ∙ taken_out (has s j) (eqb j k) (λ e. ap (has s) (eqb-true j k e) ∙ m)

pub without_lt : (d s k : ℕ) → s < 2 ^ d → k < d → without s k < 2 ^ d
unfolding without
without_lt d s k h l = xor_lt d s (2 ^ k) h (pow-lt l)

-- it is gone
pub without_gone : (s k : ℕ) → has s k ≡ true → has (without s k) k ≡ false
without_gone s k m = has-without s k k m ∙ ap₂ (λ (a b : Bool). a && not b) m (eq-eqb k k refl)

-- the others stay
pub without_other : (s k j : ℕ) → has s k ≡ true → (j ≡ k → ⊥) → has (without s k) j ≡ has s j
without_other s k j m n = has-without s k j m ∙ ap (λ (b : Bool). has s j && not b) (ne_eqb j k n) ∙ and-true (has s j)

-- put back, it is the set
pub with-without : (d s k : ℕ) → s < 2 ^ d → k < d → has s k ≡ true → with (without s k) k ≡ s
with-without d s k h l m =
    same_members d (with (without s k) k) s (or_lt d (without s k) (2 ^ k) (without_lt d s k h l) (pow-lt l)) h
    (λ j q. has-with (without s k) k j ∙ same j (eqb j k) refl)
  where
    same : (j : ℕ) (b : Bool) → eqb j k ≡ b → (has (without s k) j || b) ≡ has s j
    same j true p = or-true (has (without s k) j) ∙ sym m ∙ ap (has s) (sym (eqb-true j k p))
    same j false p = or-false (has (without s k) j) ∙ without_other s k j m (eqb-false j k p)

-- it has one member fewer
pub count-without : (d s k : ℕ) → s < 2 ^ d → k < d → has s k ≡ true → count d s ≡ suc (count d (without s k))
count-without d s k h l m =
    ap (count d) (sym (with-without d s k h l m)) ∙ count-with d (without s k) k l (without_gone s k m)

-- ---- the lowest member

has_zero : (n : ℕ) → n % 2 ≡ 1 → has n 0 ≡ true
unfolding has
has_zero n e = eq-eqb (n / 2 ^ 0 % 2) 1 (ap (λ (x : ℕ). x % 2) (div-one n) ∙ e)

odd_of : (n : ℕ) → has n 0 ≡ true → n % 2 ≡ 1
unfolding has
odd_of n m = ap (λ (x : ℕ). x % 2) (sym (div-one n)) ∙ eqb-true (n / 2 ^ 0 % 2) 1 m

trailing_in : (k n : ℕ) → 0 < n → n < 2 ^ k → (count_trailing_zeros k n < k) × (has n (count_trailing_zeros k n) ≡ true)
unfolding count_trailing_zeros
trailing_in zero n p h = absurd (omega arith)
trailing_in (suc k) n p h =
    go (n % 2) refl (λ q. trailing_in k (n / 2) q (shr_lt k 1 (subst (λ (x : ℕ). n < 2 ^ x) (sym (add-one k)) h)))
  where
    go : (d : ℕ) → n % 2 ≡ d → (0 < n / 2 → (count_trailing_zeros k (n / 2) < k) × (has (n / 2) (count_trailing_zeros k (n / 2)) ≡ true))
        → (under d (count_trailing_zeros k (n / 2)) < suc k) × (has n (under d (count_trailing_zeros k (n / 2))) ≡ true)
    go zero e rest =
        let ih = rest (omega arith) in
        (omega (arith, ih.0), sym (has_half n (count_trailing_zeros k (n / 2))) ∙ ih.1)
    go (suc d) e rest = let q : n % 2 < 2 = mod-lt n (lit< tt) in (omega arith, has_zero n (omega arith))

-- a set with a member has a lowest
pub lowest-of : (s : ℕ) → 0 < s → s < 2 ^ 64 → Lowest s (lowest_of s)
unfolding lowest_of
lowest-of s p h = let t = trailing_in 64 s p h in record { same = refl; small = t.0; member = t.1 }

trailing_least : (k n j : ℕ) → has n j ≡ true → count_trailing_zeros k n ≤ j
unfolding count_trailing_zeros
trailing_least zero n j m = zero-le
trailing_least (suc k) n zero m = go (n % 2) refl
  where
    go : (d : ℕ) → n % 2 ≡ d → under d (count_trailing_zeros k (n / 2)) ≤ 0
    go zero e = let o : n % 2 ≡ 1 = odd_of n m in absurd (omega arith)
    go (suc d) e = zero-le
trailing_least (suc k) n (suc j) m = go (n % 2) (trailing_least k (n / 2) j (has_half n j ∙ m))
  where
    go : (d : ℕ) → count_trailing_zeros k (n / 2) ≤ j → under d (count_trailing_zeros k (n / 2)) ≤ suc j
    go zero h = suc-le-suc h
    go (suc d) h = zero-le

-- no member is below the lowest
pub lowest_least : (s k j : ℕ) → Lowest s k → has s j ≡ true → k ≤ j
unfolding lowest_of
lowest_least s k j low m = subst (λ (x : ℕ). x ≤ j) (sym low.same) (trailing_least 64 s j m)
