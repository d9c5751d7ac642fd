-- A word and four words below a power of two.
-- Assumes nothing.
use mathlib.Core.Path.{◌≡◌, refl, sym, ap, ap₂, ◌∙◌}
use mathlib.Core.Bool.{Bool, true, false, ◌&&◌}
use mathlib.Core.List.{List}
use Prim.Native.Nat.{ℕ, zero, suc, ◌+◌, ◌-◌, ◌*◌, ◌^◌, ◌≤◌, ◌<◌}
use native.Mathlib.Nat.{mul_comm, zero-mul, mul-le-mul_right}
use native.Mathlib.Decide.{dec_le}
use native.Mathlib.Omega.{arith}
use lib.Arith.{digits_lt}
use lib.Dec.{ltb, leb}
use lib.Pow.{pow_pos, pow-add, pow-lt, pow_mono}
use borrow.Author.Tests.{lt-ltb, le-ltb, ltb-true, ltb-false, leb-true, leb-false}
use mir.Val.{Fits}
use mir.Syntax.{w64}
use Rattle.sets.specs.Words.{joined, value}
use Rattle.sets.proofs.Digits.{word, joined_lt}

-- a word of 64 bits is below every higher power of two
pub word_below : (w n : ℕ) → w < 2 ^ 64 → 64 ≤ n → ltb w (2 ^ n) ≡ true
word_below w n f h = let m : 2 ^ 64 ≤ 2 ^ n = pow_mono h in lt-ltb w (2 ^ n) (omega arith)

-- a digit of weight 2 ^ k is below 2 ^ (k + j) exactly if it is below 2 ^ j itself
scaled : (w k j : ℕ) → ltb (w * 2 ^ k) (2 ^ (k + j)) ≡ ltb w (2 ^ j)
scaled w k j = rw pow-add (go (ltb w (2 ^ j)) refl)
  where
    go : (b : Bool) → ltb w (2 ^ j) ≡ b → ltb (w * 2 ^ k) (2 ^ k * 2 ^ j) ≡ b
    go true e =
        let h : w * 2 ^ k + 0 < 2 ^ j * 2 ^ k = digits_lt (ltb-true w (2 ^ j) e) (pow_pos k) in
        lt-ltb (w * 2 ^ k) (2 ^ k * 2 ^ j) (omega (arith, h, mul_comm (2 ^ j) (2 ^ k)))
    go false e =
        let h : 2 ^ j * 2 ^ k ≤ w * 2 ^ k = mul-le-mul_right (2 ^ k) (ltb-false w (2 ^ j) e) in
        le-ltb (w * 2 ^ k) (2 ^ k * 2 ^ j) (omega (arith, h, mul_comm (2 ^ j) (2 ^ k)))

-- below a lower power than its weight a digit is 0, as it is below 2 ^ 0
none_below : (w k n : ℕ) → n ≤ k → ltb w 1 ≡ ltb (w * 2 ^ k) (2 ^ n)
none_below zero k n h = sym (lt-ltb (0 * 2 ^ k) (2 ^ n) (rw zero-mul (pow_pos n)))
none_below (suc w) k n h =
    let a : 1 * 2 ^ k ≤ suc w * 2 ^ k = mul-le-mul_right (2 ^ k) (omega arith) in
    let b : 2 ^ n ≤ 2 ^ k = pow_mono h in
    le-ltb (suc w) 1 (omega arith) ∙ sym (le-ltb (suc w * 2 ^ k) (2 ^ n) (omega (arith, a, b)))

-- a digit of weight 2 ^ k is below 2 ^ n exactly if it is below 2 ^ (n - k) itself
pub digit_scaled : (w k n : ℕ) → ltb w (2 ^ (n - k)) ≡ ltb (w * 2 ^ k) (2 ^ n)
digit_scaled w k n =
    elim (dec_le k n) [
      | yes h ↦ let m : k + (n - k) ≡ n = omega arith in
          sym (scaled w k (n - k)) ∙ ap (λ (i : ℕ). ltb (w * 2 ^ k) (2 ^ i)) m
      | no h ↦ let z : n - k ≡ 0 = omega arith in
          ap (λ (i : ℕ). ltb w (2 ^ i)) z ∙ none_below w k n (omega arith)
    ]

-- a digit before lower ones
digit_below : (k n a r : ℕ) → r < 2 ^ k → ltb (a * 2 ^ k + r) (2 ^ n) ≡ (ltb (a * 2 ^ k) (2 ^ n) && ltb r (2 ^ n))
digit_below k n a r h = go (ltb (a * 2 ^ k) (2 ^ n)) refl (leb k n) refl a refl
  where
    go : (b : Bool) → ltb (a * 2 ^ k) (2 ^ n) ≡ b → (c : Bool) → leb k n ≡ c → (x : ℕ) → x ≡ a → ltb (a * 2 ^ k + r) (2 ^ n) ≡ (b && ltb r (2 ^ n))
    go false e c i x s =
        le-ltb (a * 2 ^ k + r) (2 ^ n) (omega (arith, ltb-false (a * 2 ^ k) (2 ^ n) e))
    go true e true i x s =
        let l : k ≤ n = leb-true k n i in
        let m : k + (n - k) ≡ n = omega arith in
        let p : 2 ^ n ≡ 2 ^ (n - k) * 2 ^ k = ap (λ (y : ℕ). 2 ^ y) (sym m) ∙ pow-add 2 k (n - k) ∙ mul_comm (2 ^ k) (2 ^ (n - k)) in
        let t : ltb a (2 ^ (n - k)) ≡ true = sym (scaled a k (n - k)) ∙ ap (λ (y : ℕ). ltb (a * 2 ^ k) (2 ^ y)) m ∙ e in
        let d : a * 2 ^ k + r < 2 ^ (n - k) * 2 ^ k = digits_lt (ltb-true a (2 ^ (n - k)) t) h in
        let q : 2 ^ k ≤ 2 ^ n = pow_mono l in
        lt-ltb (a * 2 ^ k + r) (2 ^ n) (omega (arith, d, p)) ∙ sym (lt-ltb r (2 ^ n) (omega (arith, h, q)))
    go true e false i zero s = ap (λ (y : ℕ). ltb (y * 2 ^ k + r) (2 ^ n)) (sym s) ∙ ap (λ (y : ℕ). ltb (y + r) (2 ^ n)) (zero-mul (2 ^ k))
        ∙ ap (λ (y : ℕ). ltb y (2 ^ n)) (omega arith)
    go true e false i (suc x) s =
        let g : 1 * 2 ^ k ≤ a * 2 ^ k = mul-le-mul_right (2 ^ k) (omega (arith, s)) in
        let q : 2 ^ n < 2 ^ k = pow-lt (leb-false k n i) in
        absurd (omega (arith, g, q, ltb-true (a * 2 ^ k) (2 ^ n) e))

and_swap : (a b : Bool) → (a && b) ≡ (b && a)
and_swap true true = refl
and_swap true false = refl
and_swap false true = refl
and_swap false false = refl

pub words_below : (ws : List ℕ) (n : ℕ) → ((i : ℕ) → Fits w64 (word ws i))
    → (ltb (word ws 0) (2 ^ n) && ltb (word ws 1) (2 ^ (n - 64)) && ltb (word ws 2) (2 ^ (n - 128)) && ltb (word ws 3) (2 ^ (n - 192)))
    ≡ ltb (value ws) (2 ^ n)
unfolding value joined
words_below ws n fit =
    let f : ℕ → ℕ = word ws in
    let h : (i : ℕ) → f i < 2 ^ 64 = λ i. (fit i).fits in
    let t : ℕ → Bool = λ x. ltb x (2 ^ n) in
    let e1 : t (joined 64 f 2) ≡ (t (f 1 * 2 ^ 64) && t (joined 64 f 1)) = digit_below 64 n (f 1) (joined 64 f 1) (joined_lt 64 f h 1) in
    let e2 : t (joined 64 f 3) ≡ (t (f 2 * 2 ^ 128) && t (joined 64 f 2)) = digit_below 128 n (f 2) (joined 64 f 2) (joined_lt 64 f h 2) in
    let e3 : t (joined 64 f 4) ≡ (t (f 3 * 2 ^ 192) && t (joined 64 f 3)) = digit_below 192 n (f 3) (joined 64 f 3) (joined_lt 64 f h 3) in
    let e0 : t (joined 64 f 1) ≡ t (f 0) = ap t (omega arith) in
    let s1 = e1 ∙ and_swap (t (f 1 * 2 ^ 64)) (t (joined 64 f 1)) ∙ ap (λ (b : Bool). b && t (f 1 * 2 ^ 64)) e0 in
    let s2 = e2 ∙ and_swap (t (f 2 * 2 ^ 128)) (t (joined 64 f 2)) ∙ ap (λ (b : Bool). b && t (f 2 * 2 ^ 128)) s1 in
    ap₂ ◌&&◌ (ap₂ ◌&&◌ (ap (◌&&◌ (t (f 0))) (digit_scaled (f 1) 64 n)) (digit_scaled (f 2) 128 n)) (digit_scaled (f 3) 192 n)
    ∙ sym (e3 ∙ and_swap (t (f 3 * 2 ^ 192)) (t (joined 64 f 3)) ∙ ap (λ (b : Bool). b && t (f 3 * 2 ^ 192)) s2)
