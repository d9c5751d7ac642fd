-- What the machine's operations compute, as the sets' operations. Each law has the form of a need.
-- Assumes nothing.
use mathlib.Core.Path.{◌≡◌, sym, ap, ◌∙◌}
use mathlib.Core.Bool.{Bool, ◌&&◌}
use mathlib.Core.List.{List, [], ◌∷◌}
use Prim.Native.Nat.{ℕ, ◌+◌, ◌*◌, ◌%◌, ◌^◌, ◌<◌}
use native.Mathlib.Nat.{mul_comm}
use native.Mathlib.Omega.{arith}
use mir.Val.{Fits}
use mir.Syntax.{w64}
use lib.Dec.{eqb, ltb}
use lib.Pow.{pow-add, pow-lt}
use lib.Bits.{bit_and, bit_or, bit_xor, and_lt}
use lib.Count.{ones}
use lib.ListN.{length, set}
use lib.Seq.{ext_get_or}
use Rattle.model.specs.Sets.{has, union, inter, with, within, count}
use Rattle.model_laws.proofs.SetLaws.{ones_count, shl_one}
use Rattle.sets.specs.Members.{without}
use Rattle.sets_split.specs.Split.{Splits}
use Rattle.sets.specs.Words.{joined, value, FourWords}
use Rattle.sets.proofs.Digits.{word, only_at, only_lt, word_put, sum_to, all_to, joined_cong, joined_lt, joined-has, joined_only, joined_ones, joined_or, joined_and, joined_eqb, joined_inj}

-- ---- a role set, a word of 64 bits
pub word_without : (n r : ℕ) → r < 64 → bit_xor n ((1 * 2 ^ r) % 2 ^ 64) ≡ without n r
unfolding without
word_without n r h = ap (bit_xor n) (shl_one 64 r h)

pub word_count : (n : ℕ) → Fits w64 n → ones n ≡ count 64 n
word_count n h = ones_count 64 n h.fits

pub word_fewer : (a m n : ℕ) → Fits w64 a → Fits w64 m → ltb (ones (bit_and a m)) n ≡ ltb (count 64 (inter a m)) n
word_fewer a m n ha hm = ap (λ (x : ℕ). ltb x n) (ones_count 64 (bit_and a m) (and_lt 64 a m ha.fits hm.fits))

-- ---- four words of 64 bits: what the code computes, as the set's operation
module _ (ws : List ℕ) (fit : (i : ℕ) → Fits w64 (word ws i)) where
  h : (i : ℕ) → word ws i < 2 ^ 64
  h i = (fit i).fits

  pub value_lt : value ws < 2 ^ 256
  unfolding value joined
  value_lt = joined_lt 64 (word ws) h 4

  -- bit k of word i is permission p
  pub value-has : (p i k : ℕ) → Splits p i k → has (word ws i) k ≡ has (value ws) p
  unfolding value joined
  value-has p i k s =
      sym (joined-has 64 (word ws) h 4 i k s.inside s.small) ∙ ap (λ (x : ℕ). has (joined 64 (word ws) 4) x) s.whole

  pub value-count : ones (word ws 0) + ones (word ws 1) + ones (word ws 2) + ones (word ws 3) ≡ count 256 (value ws)
  unfolding value joined sum_to
  value-count =
      omega (arith, joined_ones 64 (word ws) h 4)
      ∙ ones_count 256 (value ws) value_lt

  module _ (vs : List ℕ) (fit' : (i : ℕ) → Fits w64 (word vs i)) where
    h' : (i : ℕ) → word vs i < 2 ^ 64
    h' i = (fit' i).fits

    pub value-union : value (bit_or (word ws 0) (word vs 0) ∷ bit_or (word ws 1) (word vs 1) ∷ bit_or (word ws 2) (word vs 2) ∷ bit_or (word ws 3)
        (word vs 3) ∷ [])
        ≡ union (value ws) (value vs)
    unfolding value joined
    value-union = joined_or 64 (word ws) (word vs) h h' 4

    abbrev pub sub : ℕ → Bool
    sub i = eqb (bit_and (word ws i) (word vs i)) (word ws i)

    pub value-within : (sub 0 && sub 1 && sub 2 && sub 3) ≡ within (value ws) (value vs)
    unfolding value joined all_to within
    value-within =
        sym (joined_eqb 64 (λ i. bit_and (word ws i) (word vs i)) (word ws) (λ i. and_lt 64 _ _ (h i) (h' i)) h 4)
        ∙ ap (λ (x : ℕ). eqb x (value ws)) (joined_and 64 (word ws) (word vs) h h' 4)

-- ---- a set has one list of words
pub value_inj : (a b : List ℕ) → length a ≡ 4 → length b ≡ 4 → ((i : ℕ) → Fits w64 (word a i)) → ((i : ℕ) → Fits w64 (word b i))
    → value a ≡ value b → a ≡ b
unfolding value joined
value_inj a b la lb fa fb e =
    ext_get_or 0 a b (la ∙ sym lb) (λ i l. joined_inj 64 (word a) (word b) (λ j. (fa j).fits) (λ j. (fb j).fits) 4 e i (omega arith))

-- ---- permission p put into its word: bit k of word i

-- the set with the single member p
single : (p i k : ℕ) → Splits p i k → joined 64 (only_at i ((1 * 2 ^ k) % 2 ^ 64)) 4 ≡ 2 ^ p
single p i k s =
    joined_only 64 i ((1 * 2 ^ k) % 2 ^ 64) 4 s.inside
    ∙ ap (λ (x : ℕ). x * 2 ^ (i * 64)) (shl_one 64 k s.small)
    ∙ mul_comm (2 ^ k) (2 ^ (i * 64)) ∙ sym (pow-add 2 (i * 64) k) ∙ ap (λ (x : ℕ). 2 ^ x) s.whole

pub value_put : (ws : List ℕ) (p i k : ℕ) → FourWords ws → Splits p i k
    → value (set ws i (bit_or (word ws i) ((1 * 2 ^ k) % 2 ^ 64))) ≡ with (value ws) p
unfolding value
value_put ws p i k f s =
    let x : ℕ = (1 * 2 ^ k) % 2 ^ 64 in
    let l : x < 2 ^ 64 = rw (shl_one 64 k s.small) (pow-lt s.small) in
    joined_cong 64 (word (set ws i (bit_or (word ws i) x))) (λ j. bit_or (word ws j) (only_at i x j)) 4
    (λ j h. word_put ws i x j (omega (arith, f.long, s.inside)))
    ∙ joined_or 64 (word ws) (only_at i x) (λ j. (f.fit j).fits) (λ j. only_lt i x j (2 ^ 64) l) 4
    ∙ ap (bit_or (joined 64 (word ws) 4)) (single p i k s)
