-- Counts kept in planes: what adding a word does to the count of a role, plane by plane.
-- Assumes nothing.
use mathlib.Core.Path.{◌≡◌, refl, sym, ap, ◌∙◌}
use mathlib.Core.Bool.{Bool, true, false, ◌&&◌}
use mathlib.Core.List.{List, [], ◌∷◌}
use Prim.Native.Nat.{ℕ, zero, suc, ◌+◌, ◌*◌, ◌%◌, ◌^◌, ◌≤◌, ◌<◌}
use native.Mathlib.Nat.{pow-suc, mul-le-mul_right, mul_comm, mul_assoc, mul-add}
use native.Mathlib.Numerals.{add-one}
use native.Mathlib.Omega.{arith}
use lib.Bits.{bit_and, bit_xor}
use lib.ListN.{length, get_or, set, drop, replicate, drop_of_length-le}
use lib.Pow.{pow_mono}
use lib.Seq.{drop-cons}
use mir.Val.{bool_byte}
use Rattle.model.specs.Sets.{has, one}
use Rattle.model_laws.proofs.SetLaws.{has-inter, one-most}
use Rattle.model_laws.proofs.UnionLaws.{has_none}
use Rattle.sets.proofs.Taken.{apart, has_xor}
use Rattle.limits_counts.specs.Counted.{count_in}

-- a plane and what is carried into it: what stays and what is carried on
half : (p k r : ℕ) → one (has (bit_xor p k) r) + 2 * one (has (bit_and p k) r) ≡ one (has p r) + one (has k r)
half p k r =
    ap (λ (b : Bool). one b + 2 * one (has (bit_and p k) r)) (has_xor p k r)
    ∙ ap (λ (b : Bool). one (apart (has p r) (has k r)) + 2 * one b) (has-inter p k r) ∙ table (has p r) (has k r)
  where
    table : (x y : Bool) → one (apart x y) + 2 * one (x && y) ≡ one x + one y
    table true true = refl
    table true false = refl
    table false true = refl
    table false false = refl

-- powers of two
doubled : (i b : ℕ) → 2 ^ suc i * b ≡ 2 * (2 ^ i * b)
doubled i b = let e : 2 ^ suc i ≡ 2 * 2 ^ i = pow-suc 2 i ∙ mul_comm (2 ^ i) 2 in ap (λ (n : ℕ). n * b) e ∙ mul_assoc 2 (2 ^ i) b

halves : (w a b : ℕ) → w * (a + 2 * b) ≡ w * a + 2 * (w * b)
halves w a b =
    mul-add w a (2 * b) ∙ ap (λ (n : ℕ). w * a + n) (sym (mul_assoc w 2 b) ∙ ap (λ (n : ℕ). n * b) (mul_comm w 2) ∙ mul_assoc 2 w b)

-- a digit x in place of that at i
module _ (x r : ℕ) where
  digit_put : (ps : List ℕ) (i : ℕ) → i < length ps
      → count_in (set ps i x) r + 2 ^ i * one (has (get_or ps i 0) r) ≡ count_in ps r + 2 ^ i * one (has x r)
  unfolding count_in
  digit_put [] i h = absurd (omega arith)
  digit_put (p ∷ ps) zero h = omega arith
  digit_put (p ∷ ps) (suc i) h =
      let l : i < length ps = omega arith in
      let k = digit_put ps i l in
      omega (arith, k, doubled i (one (has (get_or ps i 0) r)), doubled i (one (has x r)))

-- what is carried into plane i, and with it what the planes count
abbrev pub Carried : List ℕ → ℕ → ℕ → ℕ → ℕ → Type 0
Carried ps i carried whole r = count_in ps r + 2 ^ i * one (has carried r) ≡ whole

pub carried_next : (ps : List ℕ) (i k whole r : ℕ) → i < length ps → Carried ps i k whole r
    → Carried (set ps i (bit_xor (get_or ps i 0) k)) (i + 1) (bit_and (get_or ps i 0) k) whole r
carried_next ps i k whole r h inv =
    let p = get_or ps i 0 in
    let w = 2 ^ i in
    let d = digit_put (bit_xor p k) r ps i h in
    let e : w * one (has (bit_xor p k) r) + 2 * (w * one (has (bit_and p k) r)) ≡ w * one (has p r) + w * one (has k r) =
    sym (halves w (one (has (bit_xor p k) r)) (one (has (bit_and p k) r))) ∙ ap (λ (n : ℕ). w * n) (half p k r) ∙ mul-add w (one (has p r)) (one (has k r)) in
    let g : 2 ^ (i + 1) * one (has (bit_and p k) r) ≡ 2 * (w * one (has (bit_and p k) r)) = rw (add-one i) (doubled i (one (has (bit_and p k) r))) in
    omega (arith, d, e, g, inv)

-- ten planes hold the whole, which has ten digits, and nothing is carried out of them
pub carried_out : (ps : List ℕ) (i k whole r : ℕ) → i ≡ 10 → whole < 1024 → Carried ps i k whole r → count_in ps r ≡ whole
carried_out ps i k whole r e h inv =
    let f : count_in ps r + 1024 * one (has k r) ≡ whole = rw e at inv in
    omega (arith, f, h, one-most (has k r))

-- the empty word adds nothing
pub unchanged : (n w r : ℕ) → w ≡ 0 → n ≡ n + one (has w r)
unchanged n w r e = let z : one (has w r) ≡ 0 = rw (e, has_none r) in omega arith

-- nothing is counted in empty planes
pub none_counted : (r : ℕ) → count_in (replicate 10 0) r ≡ 0
unfolding count_in
none_counted r = rw (has_none r)

-- ---- a digit at its place

-- the machine's number of a test is the digit
pub digit_of : (b : Bool) (n : ℕ) → n ≡ bool_byte b → (n ≡ one b) × (n < 2)
digit_of true n e = (e, omega arith)
digit_of false n e = (e, omega arith)

pub placed : (b i : ℕ) → b < 2 → i < 10 → (b * 2 ^ i % 18446744073709551616 ≡ b * 2 ^ i) × (b * 2 ^ i ≤ 2 ^ i)
placed b i h l =
    let few : i ≤ 9 = omega arith in
    let w : 2 ^ i ≤ 2 ^ 9 = pow_mono few in
    let k : b * 2 ^ i ≤ 1 * 2 ^ i = mul-le-mul_right (2 ^ i) (omega arith) in
    (omega (arith, w, k), omega (arith, k))

-- ---- read plane by plane: the count is what is read and what the planes from i on hold
pub read_next : (ps : List ℕ) (i n b r : ℕ) → i < length ps → b ≡ one (has (get_or ps i 0) r)
    → (n + b * 2 ^ i) + 2 ^ (i + 1) * count_in (drop (i + 1) ps) r ≡ n + 2 ^ i * count_in (drop i ps) r
unfolding count_in
read_next ps i n b r h e =
    let p = one (has (get_or ps i 0) r) in
    let rest = count_in (drop (suc i) ps) r in
    let d : count_in (drop i ps) r ≡ p + 2 * rest = rw (drop-cons ps i 0 h) in
    let q = ap (λ (x : ℕ). 2 ^ i * x) d ∙ halves (2 ^ i) p rest in
    let m : b * 2 ^ i ≡ 2 ^ i * p = mul_comm b (2 ^ i) ∙ ap (λ (x : ℕ). 2 ^ i * x) e in
    rw (add-one i) (omega (arith, q, m, doubled i rest))

pub read_all : (ps : List ℕ) (i n r : ℕ) → length ps ≤ i → n ≡ n + 2 ^ i * count_in (drop i ps) r
unfolding count_in
read_all ps i n r h = rw (drop_of_length-le ps h) (omega arith)
