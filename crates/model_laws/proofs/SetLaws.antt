-- The laws of sets that are numbers, over any width: a member of each operation's result, equal sets by their members,
-- inclusion, the count.
-- Assumes nothing.
use mathlib.Core.Path.{◌≡◌, refl, sym, ap, ap₂, ◌∙◌}
use mathlib.Core.Logic.{◌⊎◌, inl, inr}
use mathlib.Core.Bool.{Bool, true, false, ◌&&◌, ◌||◌, or-false, false≢true}
use Prim.Native.Nat.{ℕ, zero, suc, ◌+◌, ◌-◌, ◌*◌, ◌/◌, ◌%◌, ◌^◌, ◌≤◌, ◌<◌, zero-le, suc-le-suc}
use native.Mathlib.Nat.{add-le-add, div_self, mul-mod_left, mod-one, lt_of_le_of_lt, mod-lt, zero-lt-suc, not-suc-le-zero, div-add-mod', div-one, mod-eq_of_lt, div-eq_of_lt, one-mul, lt_of_lt_of_le, le_refl, le-suc, add-zero, add-suc}
use native.Mathlib.Numerals.{one-add, add-one}
use native.Mathlib.Decide.{dec_lt}
use native.Mathlib.Omega.{arith}
use lib.Dec.{eqb}
use lib.Arith.{lt-one}
use lib.Pow.{field, mod-mod-pow, pow_mono, pow-lt, pow_pos, shr-shr, shr_lt, mod-pow-add, pow-add, shl-shr}
use lib.Bits.{bit_and, bit_or, and_shr, and_mod, or_shr, or_mod, or_lt, and_le_l}
use lib.Count.{ones, ones_cat}
use borrow.Author.Tests.{eqb-true, eq-eqb, ne_eqb}
use Rattle.model.specs.Sets.{has, union, inter, with, within, one, count_to, count}
use Rattle.model_laws.proofs.Bools.{and_l, and_r, both, or_l, or_r, or_cases, bool_ext}

-- ---- a member of a union and of an intersection: one law for an operation that works digit by digit
module _ (op : ℕ → ℕ → ℕ) (f : Bool → Bool → Bool)
    (shr : (a b k : ℕ) → op a b / 2 ^ k ≡ op (a / 2 ^ k) (b / 2 ^ k))
    (low : (a b k : ℕ) → op a b % 2 ^ k ≡ op (a % 2 ^ k) (b % 2 ^ k))
    (table : (x y : ℕ) → x < 2 → y < 2 → eqb (op x y) 1 ≡ f (eqb x 1) (eqb y 1)) where
  has_op : (a b k : ℕ) → has (op a b) k ≡ f (has a k) (has b k)
  unfolding has
  has_op a b k =
      ap (λ (x : ℕ). eqb (x % 2) 1) (shr a b k) ∙ ap (λ (x : ℕ). eqb x 1) (low (a / 2 ^ k) (b / 2 ^ k) 1)
      ∙ table (a / 2 ^ k % 2) (b / 2 ^ k % 2) (mod-lt (a / 2 ^ k) (pow_pos 1)) (mod-lt (b / 2 ^ k) (pow_pos 1))

-- a number below 2 is 0 or 1
digit-case : (P : ℕ → Type 0) → P 0 → P 1 → (x : ℕ) → x < 2 → P x
digit-case P a b zero h = a
digit-case P a b (suc zero) h = b
digit-case P a b (suc (suc x)) h = absurd (omega arith)

or_table : (x y : ℕ) → x < 2 → y < 2 → eqb (bit_or x y) 1 ≡ (eqb x 1 || eqb y 1)
or_table x y hx hy =
    digit-case (λ x. eqb (bit_or x y) 1 ≡ (eqb x 1 || eqb y 1)) refl (digit-case (λ y. eqb (bit_or 1 y) 1 ≡ true) refl refl y hy) x hx

and_table : (x y : ℕ) → x < 2 → y < 2 → eqb (bit_and x y) 1 ≡ (eqb x 1 && eqb y 1)
and_table x y hx hy =
    digit-case (λ x. eqb (bit_and x y) 1 ≡ (eqb x 1 && eqb y 1)) refl (digit-case (λ y. eqb (bit_and 1 y) 1 ≡ eqb y 1) refl refl y hy) x hx

pub has-union : (a b k : ℕ) → has (union a b) k ≡ (has a k || has b k)
has-union = has_op bit_or ◌||◌ or_shr or_mod or_table

pub has-inter : (a b k : ℕ) → has (inter a b) k ≡ (has a k && has b k)
has-inter = has_op bit_and ◌&&◌ and_shr and_mod and_table

-- a member of a union is one of either set, and of an intersection of both
pub union-cases : (a b k : ℕ) → has (union a b) k ≡ true → (has a k ≡ true) ⊎ (has b k ≡ true)
union-cases a b k e = or_cases (has a k) (has b k) (sym (has-union a b k) ∙ e)

pub union_l : (a b k : ℕ) → has a k ≡ true → has (union a b) k ≡ true
union_l a b k e = has-union a b k ∙ or_l (has a k) (has b k) e

pub union_r : (a b k : ℕ) → has b k ≡ true → has (union a b) k ≡ true
union_r a b k e = has-union a b k ∙ or_r (has a k) (has b k) e

pub inter-parts : (a b k : ℕ) → has (inter a b) k ≡ true → (has a k ≡ true) × (has b k ≡ true)
inter-parts a b k e = let h = sym (has-inter a b k) ∙ e in (and_l (has a k) (has b k) h, and_r (has a k) (has b k) h)

pub inter_both : (a b k : ℕ) → has a k ≡ true → has b k ≡ true → has (inter a b) k ≡ true
inter_both a b k e f = has-inter a b k ∙ both (has a k) (has b k) e f

-- ---- sets of d numbers are equal where their members are
pub has_half : (n k : ℕ) → has (n / 2) k ≡ has n (suc k)
unfolding has
has_half n k = ap (λ (x : ℕ). eqb (x % 2) 1) (shr-shr n 1 k ∙ ap (λ (j : ℕ). n / 2 ^ j) (one-add k))

pub digit : (x : ℕ) → x < 2 → x ≡ one (eqb x 1)
digit = digit-case (λ x. x ≡ one (eqb x 1)) refl refl

bit_of : (x y : ℕ) → x < 2 → y < 2 → eqb x 1 ≡ eqb y 1 → x ≡ y
bit_of x y hx hy e = digit x hx ∙ ap one e ∙ sym (digit y hy)

lowest : (n : ℕ) → n / 2 ^ 0 % 2 ≡ n % 2
lowest n = ap (λ (x : ℕ). x % 2) (div-one n)

half_lt : {n : ℕ} (d : ℕ) → n < 2 ^ suc d → n / 2 < 2 ^ d
half_lt {n} d h = shr_lt d 1 (rw (add-one d) h)

pub same_members : (d a b : ℕ) → a < 2 ^ d → b < 2 ^ d → ((k : ℕ) → k < d → has a k ≡ has b k) → a ≡ b
unfolding has
same_members zero a b ha hb h = lt-one ha ∙ sym (lt-one hb)
same_members (suc d) a b ha hb h =
    sym (div-add-mod' a 2)
    ∙ ap₂ (λ (x y : ℕ). x * 2 + y)
    (same_members d (a / 2) (b / 2) (half_lt d ha) (half_lt d hb) (λ k l. has_half a k ∙ h (suc k) (suc-le-suc l) ∙ sym (has_half b k)))
    (bit_of (a % 2) (b % 2) (mod-lt a (pow_pos 1)) (mod-lt b (pow_pos 1))
    (ap (λ (x : ℕ). eqb x 1) (sym (lowest a)) ∙ h 0 (zero-lt-suc d) ∙ ap (λ (x : ℕ). eqb x 1) (lowest b)))
    ∙ div-add-mod' b 2

-- ---- inclusion
pub within_has : (a b : ℕ) → within a b ≡ true → (k : ℕ) → has a k ≡ true → has b k ≡ true
unfolding within
within_has a b w k h =
    let e : (has a k && has b k) ≡ has a k = sym (has-inter a b k) ∙ ap (λ (x : ℕ). has x k) (eqb-true (inter a b) a w) in
    ap (λ (x : Bool). x && has b k) (sym h) ∙ e ∙ h

implied : (x y : Bool) → (x ≡ true → y ≡ true) → (x && y) ≡ x
implied true y h = h refl
implied false y h = refl

pub has_within : (d a b : ℕ) → a < 2 ^ d → ((k : ℕ) → k < d → has a k ≡ true → has b k ≡ true) → within a b ≡ true
unfolding within
has_within d a b ha h =
    eq-eqb (inter a b) a
    (same_members d (inter a b) a (lt_of_le_of_lt (and_le_l a b) ha) ha (λ k l. has-inter a b k ∙ implied (has a k) (has b k) (h k l)))

-- ---- the count: the machine's count of the digits set is the number of members
one_of : (x : ℕ) → x < 2 → ones x ≡ one (eqb x 1)
unfolding ones
one_of = digit-case (λ x. ones x ≡ one (eqb x 1)) refl refl

ones_low : (d n : ℕ) → ones (n % 2 ^ d) ≡ count d n
unfolding count count_to ones has
ones_low zero n = ap ones (mod-one n)
ones_low (suc d) n =
    ap (λ (j : ℕ). ones (n % 2 ^ j)) (sym (one-add d)) ∙ ap ones (mod-pow-add n 1 d)
    ∙ ones_cat d (n / 2 ^ d % 2) (n % 2 ^ d) (mod-lt n (pow_pos d))
    ∙ ap₂ (λ (x y : ℕ). x + y) (one_of (n / 2 ^ d % 2) (mod-lt (n / 2 ^ d) (pow_pos 1))) (ones_low d n)

pub ones_count : (d n : ℕ) → n < 2 ^ d → ones n ≡ count d n
ones_count d n h = ap ones (sym (mod-eq_of_lt h)) ∙ ones_low d n

-- ---- a single member
-- a number's high digits have no say in its low ones
pub has_low : (n m k : ℕ) → k < m → has (n % 2 ^ m) k ≡ has n k
unfolding has
has_low n m k h =
    let e : m ≡ (m - suc k + 1) + k = omega arith in
    ap (λ (x : ℕ). eqb (n % 2 ^ x / 2 ^ k % 2) 1) e
    ∙ ap (λ (x : ℕ). eqb (x % 2) 1) (field n (m - suc k + 1) k)
    ∙ ap (λ (x : ℕ). eqb x 1) (mod-mod-pow (n / 2 ^ k) (m - suc k) 1)

pub has_high : (n m k : ℕ) → has n (m + k) ≡ has (n / 2 ^ m) k
unfolding has
has_high n m k = ap (λ (x : ℕ). eqb (x % 2) 1) (sym (shr-shr n m k))

-- beyond a set's width there is no member
pub has_beyond : (d n k : ℕ) → n < 2 ^ d → d ≤ k → has n k ≡ false
unfolding has
has_beyond d n k h l = ap (λ (x : ℕ). eqb (x % 2) 1) (div-eq_of_lt (lt_of_lt_of_le h (pow_mono l)))

has_power_below : (r k : ℕ) → k < r → has (2 ^ r) k ≡ false
unfolding has
has_power_below r k h =
    let e : r ≡ (r - suc k + 1) + k = omega arith in
    ap (λ (x : ℕ). eqb (2 ^ x / 2 ^ k % 2) 1) e
    ∙ ap (λ (x : ℕ). eqb (x / 2 ^ k % 2) 1) (pow-add 2 (r - suc k + 1) k)
    ∙ ap (λ (x : ℕ). eqb (x % 2) 1) (shl-shr (2 ^ (r - suc k + 1)) k ∙ pow-add 2 (r - suc k) 1)
    ∙ ap (λ (x : ℕ). eqb x 1) (mul-mod_left (2 ^ (r - suc k)) 2)

pub has_power : (r k : ℕ) → has (2 ^ r) k ≡ eqb k r
unfolding has
has_power r k =
    elim (dec_lt k r) [
      | yes l ↦ has_power_below r k l ∙ sym (ne_eqb k r (λ e. omega arith))
      | no l ↦ elim (dec_lt r k) [
        | yes m ↦ has_beyond (suc r) (2 ^ r) k (pow-lt (le_refl (suc r))) m ∙ sym (ne_eqb k r (λ e. omega arith))
        | no m ↦
            let e : k ≡ r = omega arith in
            ap (λ (x : ℕ). has (2 ^ r) x) e ∙ ap (λ (x : ℕ). eqb (x % 2) 1) (div_self (pow_pos r)) ∙ sym (eq-eqb k r e)
      ]
    ]

-- the set of r alone has r alone
pub power_only : (r k : ℕ) → has (2 ^ r) k ≡ true → k ≡ r
power_only r k e = eqb-true k r (sym (has_power r k) ∙ e)

pub has-with : (n r k : ℕ) → has (with n r) k ≡ (has n k || eqb k r)
has-with n r k = has-union n (2 ^ r) k ∙ ap (λ (x : Bool). has n k || x) (has_power r k)

pub with_new : (n r : ℕ) → has (with n r) r ≡ true
with_new n r = union_r n (2 ^ r) r (has_power r r ∙ eq-eqb r r refl)

pub with_cases : (n r k : ℕ) → has (with n r) k ≡ true → (has n k ≡ true) ⊎ (k ≡ r)
with_cases n r k e = elim (or_cases (has n k) (eqb k r) (sym (has-with n r k) ∙ e)) [ inl h ↦ inl h | inr h ↦ inr (eqb-true k r h) ]

-- the machine's `1 << r` at a width of d bits
pub shl_one : (d r : ℕ) → r < d → (1 * 2 ^ r) % 2 ^ d ≡ 2 ^ r
shl_one d r h = ap (λ (x : ℕ). x % 2 ^ d) (one-mul (2 ^ r)) ∙ mod-eq_of_lt (pow-lt h)

-- ---- counts of related sets
pub count_cong : (f g : ℕ → Bool) (d : ℕ) → ((k : ℕ) → k < d → f k ≡ g k) → count_to f d ≡ count_to g d
unfolding count_to
count_cong f g zero h = refl
count_cong f g (suc d) h =
    ap₂ (λ (x : Bool) (y : ℕ). one x + y) (h d (le_refl (suc d))) (count_cong f g d (λ k l. h k (lt_of_lt_of_le l (le-suc d))))

pub one-le : (x y : Bool) → (x ≡ true → y ≡ true) → one x ≤ one y
one-le false y h = zero-le
one-le true true h = le_refl 1
one-le true false h = absurd (false≢true (h refl))

-- a test counts at most once
pub one-most : (b : Bool) → one b ≤ 1
one-most true = le_refl 1
one-most false = zero-le

-- a set within another has no more members
pub count-within : (d a b : ℕ) → within a b ≡ true → count d a ≤ count d b
unfolding count count_to
count-within zero a b w = zero-le
count-within (suc d) a b w = add-le-add (one-le (has a d) (has b d) (within_has a b w d)) (count-within d a b w)

pub count_more : (f : ℕ → Bool) (d k : ℕ) → k < d → f k ≡ false → count_to (λ j. f j || eqb j k) d ≡ suc (count_to f d)
unfolding count_to
count_more f zero k l h = absurd (not-suc-le-zero l)
count_more f (suc d) k l h =
    let other : (j : ℕ) → ¬ (j ≡ k) → (f j || eqb j k) ≡ f j = λ j n. ap (λ (x : Bool). f j || x) (ne_eqb j k n) ∙ or-false (f j) in
    elim (dec_lt k d) [
      | yes q ↦ rw (other d (λ e. omega arith), count_more f d k q h) (omega arith)
      | no q ↦
          let e : d ≡ k = omega arith in
          let g : f d ≡ false = ap f e ∙ h in
          rw (eq-eqb d k e, g, count_cong (λ j. f j || eqb j k) f d (λ j q. other j (λ m. omega arith))) (omega arith)
    ]

-- one member more, where it was none
pub count-with : (d n k : ℕ) → k < d → has n k ≡ false → count d (with n k) ≡ suc (count d n)
unfolding count
count-with d n k l h = count_cong (has (with n k)) (λ j. has n j || eqb j k) d (λ j q. has-with n k j) ∙ count_more (has n) d k l h

-- a member put in again
pub with_member : (d n k : ℕ) → n < 2 ^ d → k < d → has n k ≡ true → with n k ≡ n
with_member d n k l q h =
    same_members d (with n k) n (or_lt d n (2 ^ k) l (pow-lt q)) l
    (λ j m. bool_ext (has (with n k) j) (has n j) (λ e. elim (with_cases n k j e) [ inl p ↦ p | inr p ↦ ap (has n) p ∙ h ]) (union_l n (2 ^ k) j))

-- those below a, and those from a on
pub count_split : (f : ℕ → Bool) (a b : ℕ) → count_to f (a + b) ≡ count_to f a + count_to (λ k. f (a + k)) b
unfolding count_to
count_split f a zero = ap (count_to f) (add-zero a) ∙ sym (add-zero (count_to f a))
count_split f a (suc b) =
    ap (count_to f) (add-suc a b) ∙ omega (arith, count_split f a b)
