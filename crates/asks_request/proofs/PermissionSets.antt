-- Permission sets in bytes and in words: 32 bytes as four words.
-- Assumes nothing.
use mathlib.Core.Path.{◌≡◌, refl, sym, ap, ◌∙◌}
use mathlib.Core.List.{List, [], ◌∷◌}
use Prim.Native.Nat.{ℕ, zero, suc, ◌+◌, ◌*◌, ◌^◌, ◌≤◌}
use native.Mathlib.Nat.{pow-suc, mul_comm, mul_assoc, mul-add, add-mul, one-mul, add-zero, zero-add}
use native.Mathlib.Omega.{arith}
use lib.ListN.{length, take, drop, length-drop, drop_of_length-le}
use lib.Seq.{drop-drop}
use Rattle.model.specs.Bytes.{number}
use Rattle.sets.specs.Words.{joined, value}
use Rattle.octets.specs.Splice.{number_at}

-- a number by its n lowest bytes and the rest
number_split : (n : ℕ) (s : List ℕ) → n ≤ length s → number s ≡ number (take n s) + 256 ^ n * number (drop n s)
unfolding number
number_split zero s h = sym (ap (λ (x : ℕ). 0 + x) (one-mul (number s)) ∙ zero-add (number s))
number_split (suc n) [] h = absurd (omega arith)
number_split (suc n) (b ∷ s) h =
    let e = number_split n s (omega arith) in
    let x : 256 ^ suc n * number (drop n s) ≡ 256 * (256 ^ n * number (drop n s))
    = ap (λ (y : ℕ). y * number (drop n s)) (pow-suc 256 n ∙ mul_comm (256 ^ n) 256) ∙ mul_assoc 256 (256 ^ n) (number (drop n s)) in
    omega (arith, e, x)

-- four digits in base B
horner : (B C D a b c d : ℕ) → C ≡ B * B → D ≡ C * B → d * D + (c * C + (b * B + (a * 1 + 0))) ≡ a + B * (b + B * (c + B * d))
horner B C D a b c d e f =
    let x : ℕ = c + B * d in
    let p1 : B * (b + B * x) ≡ b * B + B * (B * x) = mul-add B b (B * x) ∙ ap (λ (y : ℕ). y + B * (B * x)) (mul_comm B b) in
    let p2 : B * (B * x) ≡ x * C = sym (mul_assoc B B x) ∙ mul_comm (B * B) x ∙ ap (λ (y : ℕ). x * y) (sym e) in
    let p3 : x * C ≡ c * C + B * d * C = add-mul c (B * d) C in
    let p4 : B * d * C ≡ d * D
    = ap (λ (y : ℕ). y * C) (mul_comm B d) ∙ mul_assoc d B C ∙ ap (λ (y : ℕ). d * y) (mul_comm B C ∙ sym f) in
    omega (arith, p1, p2, p3, p4)

-- four words as one number
four : (a b c d : ℕ) → value (a ∷ b ∷ c ∷ d ∷ []) ≡ a + 256 ^ 8 * (b + 256 ^ 8 * (c + 256 ^ 8 * d))
unfolding value joined
four a b c d = horner (2 ^ 64) (2 ^ 128) (2 ^ 192) a b c d refl refl

pub bound_is : (s : List ℕ) → length s ≡ 32 → value (number_at s 0 ∷ number_at s 8 ∷ number_at s 16 ∷ number_at s 24 ∷ []) ≡ number s
unfolding number_at number
bound_is s h =
    let n8 : length (drop 8 s) ≡ 24 = omega (arith, length-drop 8 s) in
    let n16 : length (drop 16 s) ≡ 16 = omega (arith, length-drop 16 s) in
    let n24 : length (drop 24 s) ≡ 8 = omega (arith, length-drop 24 s) in
    let n32 : length s ≤ 32 = omega arith in
    let e0 : number s ≡ number (take 8 s) + 256 ^ 8 * number (drop 8 s) = number_split 8 s (omega arith) in
    let e1 : number (drop 8 s) ≡ number (take 8 (drop 8 s)) + 256 ^ 8 * number (drop 16 s)
    = number_split 8 (drop 8 s) (omega arith) ∙ ap (λ (x : List ℕ). number (take 8 (drop 8 s)) + 256 ^ 8 * number x) (drop-drop 8 8 s) in
    let e2 : number (drop 16 s) ≡ number (take 8 (drop 16 s)) + 256 ^ 8 * number (drop 24 s)
    = number_split 8 (drop 16 s) (omega arith) ∙ ap (λ (x : List ℕ). number (take 8 (drop 16 s)) + 256 ^ 8 * number x) (drop-drop 8 16 s) in
    let e3 : number (drop 24 s) ≡ number (take 8 (drop 24 s)) + 256 ^ 8 * number (drop 32 s)
    = number_split 8 (drop 24 s) (omega arith) ∙ ap (λ (x : List ℕ). number (take 8 (drop 24 s)) + 256 ^ 8 * number x) (drop-drop 8 24 s) in
    let z : number (drop 32 s) ≡ 0 = none (drop 32 s) (drop_of_length-le s n32) in
    let last : number (drop 24 s) ≡ number (take 8 (drop 24 s))
    = e3 ∙ ap (λ (x : ℕ). number (take 8 (drop 24 s)) + 256 ^ 8 * x) z ∙ add-zero (number (take 8 (drop 24 s))) in
    four (number (take 8 s)) (number (take 8 (drop 8 s))) (number (take 8 (drop 16 s))) (number (take 8 (drop 24 s)))
    ∙ sym
    (e0 ∙ ap (λ (x : ℕ). number (take 8 s) + 256 ^ 8 * x)
    (e1 ∙ ap (λ (x : ℕ). number (take 8 (drop 8 s)) + 256 ^ 8 * x)
    (e2 ∙ ap (λ (x : ℕ). number (take 8 (drop 16 s)) + 256 ^ 8 * x) last)))
  where
    none : (l : List ℕ) → l ≡ [] → number l ≡ 0
    none l e = rw e

-- as code reads it
pub bound_by : (s : List ℕ) (a b c d : ℕ) → length s ≡ 32 → a ≡ number_at s 0 → b ≡ number_at s 8 → c ≡ number_at s 16 → d ≡ number_at s 24
    → value (a ∷ b ∷ c ∷ d ∷ []) ≡ number s
bound_by s a b c d h e f g i = rw (e, f, g, i) (bound_is s h)
