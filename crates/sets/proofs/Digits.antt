-- A number as d digits of w bits, and the operations on each digit apart: for `[u64; 4]` w is 64 and d is 4, for 32
-- bytes 8 and 32.
-- Assumes nothing.
use mathlib.Core.Path.{◌≡◌, refl, sym, ap, ap₂, ◌∙◌, subst}
use mathlib.Core.Bool.{Bool, true, false, ◌&&◌}
use mathlib.Core.List.{List}
use Prim.Native.Nat.{ℕ, zero, suc, ◌+◌, ◌*◌, ◌/◌, ◌%◌, ◌^◌, ◌≤◌, ◌<◌}
use native.Mathlib.Nat.{zero-mul, mul_assoc, add-mul, add_assoc, add-suc, add_comm, suc-mul, mul_comm, add-zero, lt-suc_self, lt_of_lt_of_le, le-suc}
use native.Mathlib.Decide.{dec_lt, ℕ_discrete}
use native.Mathlib.Omega.{arith}
use lib.Dec.{eqb}
use lib.Arith.{digits_lt, digits_div, digits_mod}
use lib.Pow.{pow_pos, pow-add, high, low}
use lib.Bits.{bit_and, bit_or, and_block, or_block, or_zero_r}
use lib.Count.{ones, ones_cat}
use lib.ListN.{length, get_or, set}
use lib.Seq.{get_or-set_same, get_or-set_other}
use borrow.Author.Tests.{eqb-true, eqb-false, eq-eqb, ne_eqb}
use Rattle.model.specs.Tests.{pick}
use Rattle.model.specs.Sets.{has}
use Rattle.model_laws.proofs.Bools.{and_l, and_r, pick-case}
use Rattle.model_laws.proofs.SetLaws.{has_low, has_high}
use Rattle.sets.specs.Words.{joined}

-- digit i of the number that a list's digits make
abbrev pub word : List ℕ → ℕ → ℕ
word ws i = get_or ws i 0

unfoldable pub sum_to : (ℕ → ℕ) → ℕ → ℕ
sum_to f zero = 0
sum_to f (suc d) = sum_to f d + f d

unfoldable pub all_to : (ℕ → Bool) → ℕ → Bool
all_to f zero = true
all_to f (suc d) = all_to f d && f d

module _ (w : ℕ) where
  pub joined_cong : (f g : ℕ → ℕ) (d : ℕ) → ((i : ℕ) → i < d → f i ≡ g i) → joined w f d ≡ joined w g d
  unfolding joined
  joined_cong f g zero h = refl
  joined_cong f g (suc d) h =
      ap₂ (λ (x y : ℕ). x * 2 ^ (d * w) + y) (h d (lt-suc_self d)) (joined_cong f g d (λ i l. h i (lt_of_lt_of_le l (le-suc d))))

  pub joined_lt : (f : ℕ → ℕ) → ((i : ℕ) → f i < 2 ^ w) → (d : ℕ) → joined w f d < 2 ^ (d * w)
  unfolding joined
  joined_lt f hf zero = pow_pos (0 * w)
  joined_lt f hf (suc d) =
      let e : 2 ^ w * 2 ^ (d * w) ≡ 2 ^ (suc d * w)
      = mul_comm (2 ^ w) (2 ^ (d * w)) ∙ sym (pow-add 2 (d * w) w) ∙ ap (λ (x : ℕ). 2 ^ x) (sym (suc-mul d w)) in
      subst (λ (x : ℕ). f d * 2 ^ (d * w) + joined w f d < x) e (digits_lt (hf d) (joined_lt f hf d))

  -- an operation that works on each run of bits apart
  module _ (op : ℕ → ℕ → ℕ)
      (block : (k a b r s : ℕ) → r < 2 ^ k → s < 2 ^ k → op (a * 2 ^ k + r) (b * 2 ^ k + s) ≡ op a b * 2 ^ k + op r s)
      (nought : op 0 0 ≡ 0)
      (f g : ℕ → ℕ) (hf : (i : ℕ) → f i < 2 ^ w) (hg : (i : ℕ) → g i < 2 ^ w) where
    joined_op : (d : ℕ) → joined w (λ i. op (f i) (g i)) d ≡ op (joined w f d) (joined w g d)
    unfolding joined
    joined_op zero = sym nought
    joined_op (suc d) =
        ap (λ (x : ℕ). op (f d) (g d) * 2 ^ (d * w) + x) (joined_op d)
        ∙ sym (block (d * w) (f d) (g d) (joined w f d) (joined w g d) (joined_lt f hf d) (joined_lt g hg d))

  module _ (f : ℕ → ℕ) (hf : (i : ℕ) → f i < 2 ^ w) where
    pub joined_ones : (d : ℕ) → ones (joined w f d) ≡ sum_to (λ i. ones (f i)) d
    unfolding joined sum_to ones
    joined_ones zero = refl
    joined_ones (suc d) =
        ones_cat (d * w) (f d) (joined w f d) (joined_lt f hf d) ∙ ap (λ (x : ℕ). ones (f d) + x) (joined_ones d)
        ∙ add_comm (ones (f d)) (sum_to (λ i. ones (f i)) d)

    -- bit k of digit i
    pub joined-has : (d i k : ℕ) → i < d → k < w → has (joined w f d) (i * w + k) ≡ has (f i) k
    unfolding joined
    joined-has zero i k hi hk = absurd (omega arith)
    joined-has (suc d) i k hi hk =
        let n = f d * 2 ^ (d * w) + joined w f d in
        elim (dec_lt i d) [
          | yes l ↦ sym (has_low n (d * w) (i * w + k) (digits_lt l hk))
              ∙ ap (λ (x : ℕ). has x (i * w + k)) (low (f d) (d * w) (joined_lt f hf d)) ∙ joined-has d i k l hk
          | no l ↦ let e : i ≡ d = omega arith in
              ap (λ (x : ℕ). has n (x * w + k)) e ∙ has_high n (d * w) k
              ∙ ap (λ (x : ℕ). has x k) (high (f d) (d * w) (joined_lt f hf d) ∙ ap f (sym e))
        ]

-- equal numbers have equal digits, tested digit by digit
eqb_digits : (m a b r s : ℕ) → r < m → s < m → eqb (a * m + r) (b * m + s) ≡ (eqb r s && eqb a b)
eqb_digits m a b r s hr hs = go (eqb r s) refl (eqb a b) refl
  where
    go : (x : Bool) → eqb r s ≡ x → (y : Bool) → eqb a b ≡ y → eqb (a * m + r) (b * m + s) ≡ (x && y)
    go false p y q =
        ne_eqb (a * m + r) (b * m + s) (λ e. eqb-false r s p (sym (digits_mod a hr) ∙ ap (λ (x : ℕ). x % m) e ∙ digits_mod b hs))
    go true p false q =
        ne_eqb (a * m + r) (b * m + s) (λ e. eqb-false a b q (sym (digits_div a hr) ∙ ap (λ (x : ℕ). x / m) e ∙ digits_div b hs))
    go true p true q = eq-eqb (a * m + r) (b * m + s) (ap₂ (λ (x y : ℕ). x * m + y) (eqb-true a b q) (eqb-true r s p))

module _ (w : ℕ) (f g : ℕ → ℕ) (hf : (i : ℕ) → f i < 2 ^ w) (hg : (i : ℕ) → g i < 2 ^ w) where
  pub joined_eqb : (d : ℕ) → eqb (joined w f d) (joined w g d) ≡ all_to (λ i. eqb (f i) (g i)) d
  unfolding joined all_to
  joined_eqb zero = refl
  joined_eqb (suc d) =
      eqb_digits (2 ^ (d * w)) (f d) (g d) (joined w f d) (joined w g d) (joined_lt w f hf d) (joined_lt w g hg d)
      ∙ ap (λ (x : Bool). x && eqb (f d) (g d)) (joined_eqb d)

  pub joined_or : (d : ℕ) → joined w (λ i. bit_or (f i) (g i)) d ≡ bit_or (joined w f d) (joined w g d)
  joined_or = joined_op w bit_or or_block refl f g hf hg

  pub joined_and : (d : ℕ) → joined w (λ i. bit_and (f i) (g i)) d ≡ bit_and (joined w f d) (joined w g d)
  joined_and = joined_op w bit_and and_block refl f g hf hg

-- ---- one digit stored

-- x at place j, and 0 at any other
unfoldable pub only_at : ℕ → ℕ → ℕ → ℕ
only_at j x i = pick (eqb i j) x 0

only_at_lem : (j x i : ℕ) → i ≡ j → only_at j x i ≡ x
unfolding only_at pick
only_at_lem j x i e = ap (λ (b : Bool). pick b x 0) (eq-eqb i j e)

only_off : (j x i : ℕ) → (i ≡ j → ⊥) → only_at j x i ≡ 0
unfolding only_at pick
only_off j x i n = ap (λ (b : Bool). pick b x 0) (ne_eqb i j n)

pub only_lt : (j x i m : ℕ) → x < m → only_at j x i < m
unfolding only_at pick
only_lt j x i m h = pick-case (λ y. y < m) (eqb i j) x 0 (λ e. h) (λ e. omega arith)

-- a digit joined with x, the others as they are
pub word_put : (ws : List ℕ) (j x i : ℕ) → j < length ws → word (set ws j (bit_or (word ws j) x)) i ≡ bit_or (word ws i) (only_at j x i)
word_put ws j x i l =
    elim (ℕ_discrete i j) [
      | yes e ↦ ap (word (set ws j (bit_or (word ws j) x))) e ∙ get_or-set_same ws j (bit_or (word ws j) x) 0 l
          ∙ ap₂ bit_or (ap (word ws) (sym e)) (sym (only_at_lem j x i e))
      | no n ↦ get_or-set_other ws j i (bit_or (word ws j) x) 0 n ∙ sym (or_zero_r (word ws i)) ∙ ap (bit_or (word ws i)) (sym (only_off j x i n))
    ]

only_none : (w j x d : ℕ) → d ≤ j → joined w (only_at j x) d ≡ 0
unfolding joined
only_none w j x zero l = refl
only_none w j x (suc d) l =
    ap₂ (λ (y z : ℕ). y * 2 ^ (d * w) + z) (only_off j x d (λ e. omega arith)) (only_none w j x d (omega arith)) ∙ omega arith

pub joined_only : (w j x d : ℕ) → j < d → joined w (only_at j x) d ≡ x * 2 ^ (j * w)
unfolding joined
joined_only w j x zero l = absurd (omega arith)
joined_only w j x (suc d) l =
    elim (dec_lt j d) [
      | yes h ↦ ap₂ (λ (y z : ℕ). y * 2 ^ (d * w) + z) (only_off j x d (λ e. omega arith)) (joined_only w j x d h) ∙ omega arith
      | no h ↦ let e : d ≡ j = omega arith in
          ap₂ (λ (y z : ℕ). y * 2 ^ (d * w) + z) (only_at_lem j x d e) (only_none w j x d (omega arith))
          ∙ add-zero (x * 2 ^ (d * w)) ∙ ap (λ (y : ℕ). x * 2 ^ (y * w)) e
    ]

-- ---- digits of digits: m digits of w bits are one of m * w bits
module _ (w : ℕ) (f : ℕ → ℕ) where
  pub joined_add : (a b : ℕ) → joined w f (a + b) ≡ joined w (λ j. f (a + j)) b * 2 ^ (a * w) + joined w f a
  unfolding joined
  joined_add a zero = ap (joined w f) (add-zero a) ∙ omega arith
  joined_add a (suc b) =
      ap (joined w f) (add-suc a b)
      ∙ ap₂ (λ (x y : ℕ). f (a + b) * 2 ^ x + y) (add-mul a b w ∙ add_comm (a * w) (b * w)) (joined_add a b)
      ∙ ap (λ (x : ℕ). f (a + b) * x + (joined w (λ j. f (a + j)) b * 2 ^ (a * w) + joined w f a)) (pow-add 2 (b * w) (a * w))
      ∙ sym (add_assoc (f (a + b) * (2 ^ (b * w) * 2 ^ (a * w))) (joined w (λ j. f (a + j)) b * 2 ^ (a * w)) (joined w f a))
      ∙ ap (λ (x : ℕ). x + joined w (λ j. f (a + j)) b * 2 ^ (a * w) + joined w f a) (sym (mul_assoc (f (a + b)) (2 ^ (b * w)) (2 ^ (a * w))))
      ∙ ap (λ (x : ℕ). x + joined w f a) (sym (add-mul (f (a + b) * 2 ^ (b * w)) (joined w (λ j. f (a + j)) b) (2 ^ (a * w))))

  pub joined_nest : (m d : ℕ) → joined (m * w) (λ i. joined w (λ j. f (i * m + j)) m) d ≡ joined w f (d * m)
  unfolding joined
  joined_nest m zero = ap (joined w f) (sym (zero-mul m))
  joined_nest m (suc d) =
      ap₂ (λ (x y : ℕ). joined w (λ j. f (d * m + j)) m * 2 ^ x + y) (sym (mul_assoc d m w)) (joined_nest m d)
      ∙ sym (joined_add (d * m) m) ∙ ap (joined w f) (sym (suc-mul d m))

all-at : (f : ℕ → Bool) (d i : ℕ) → all_to f d ≡ true → i < d → f i ≡ true
unfolding all_to
all-at f zero i h l = absurd (omega arith)
all-at f (suc d) i h l =
    elim (dec_lt i d) [
      | yes k ↦ all-at f d i (and_l (all_to f d) (f d) h) k
      | no k ↦ let n : i ≡ d = omega arith in ap f n ∙ and_r (all_to f d) (f d) h
    ]

pub joined_inj : (w : ℕ) (f g : ℕ → ℕ) → ((i : ℕ) → f i < 2 ^ w) → ((i : ℕ) → g i < 2 ^ w) → (d : ℕ)
    → joined w f d ≡ joined w g d → (i : ℕ) → i < d → f i ≡ g i
joined_inj w f g hf hg d e i l =
    eqb-true (f i) (g i)
    (all-at (λ j. eqb (f j) (g j)) d i (sym (joined_eqb w f g hf hg d) ∙ eq-eqb (joined w f d) (joined w g d) e) l)
