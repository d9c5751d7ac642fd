-- Pascal's rule over a triangular table, by one test that antt computes; and each entry by the rule.
-- Assumes nothing.
use mathlib.Core.Path.{◌≡◌, refl, sym, ap₂, ◌∙◌, subst}
use mathlib.Core.Bool.{Bool, true, ◌&&◌}
use mathlib.Core.List.{List}
use Prim.Native.Nat.{ℕ, zero, suc, ◌+◌, ◌*◌, ◌/◌, ◌≤◌, ◌<◌}
use native.Mathlib.Nat.{le_trans, mul-le-mul_left}
use native.Mathlib.Omega.{arith}
use native.Mathlib.Decide.{dec_lt}
use lib.Dec.{eqb}
use lib.ListN.{get_or, drop}
use lib.Seq.{get_or-drop}
use borrow.Author.Tests.{eqb-true}
use Rattle.model.specs.Tests.{all_below}
use Rattle.model_laws.proofs.Bools.{and_l, and_r}
use Rattle.model_laws.proofs.Every.{at_below}
use Rattle.model_binomials.specs.Binomial.{binomial}
use Rattle.model_binomials.proofs.Entries.{entries}

-- ---- a triangular table

-- its row m, and what stands behind it
unfoldable pub row_of : List ℕ → ℕ → List ℕ
row_of t m = drop (m * (m + 1) / 2) t

-- the ends of row m are 1
unfoldable pub ends_right : List ℕ → ℕ → Bool
ends_right t m = let row = row_of t m in eqb (get_or row 0 0) 1 && eqb (get_or row m 0) 1

-- between its ends, row m + 1 has the sums of neighbours in row m
unfoldable pub sums_right : List ℕ → ℕ → Bool
sums_right t m =
    let row = row_of t m in
    let next = row_of t (suc m) in
    all_below (λ k. eqb (get_or next (suc k) 0) (get_or row k 0 + get_or row (suc k) 0)) m

-- Pascal's triangle down to row d
unfoldable pub pascal : List ℕ → ℕ → Bool
pascal t d = all_below (ends_right t) (suc d) && all_below (sums_right t) d

-- ---- each entry

-- there are no sets of more than m out of m, and one of all
pub binomial_beyond : (m k : ℕ) → m < k → binomial m k ≡ 0
unfolding binomial
binomial_beyond m zero h = absurd (omega arith)
binomial_beyond zero (suc k) h = refl
binomial_beyond (suc m) (suc k) h = omega (arith, binomial_beyond m k (omega arith), binomial_beyond m (suc k) (omega arith))

pub binomial-all : (m : ℕ) → binomial m m ≡ 1
unfolding binomial
binomial-all zero = refl
binomial-all (suc m) = omega (arith, binomial-all m, binomial_beyond m (suc m) (omega arith))

module _ (t : List ℕ) (d : ℕ) (right : pascal t d ≡ true) where
  -- the parts of the test
  ends_at : (m : ℕ) → m ≤ d → ends_right t m ≡ true
  unfolding pascal
  ends_at m h = at_below (ends_right t) (suc d) (and_l _ (all_below (sums_right t) d) right) m (omega arith)

  left_end : (m : ℕ) → m ≤ d → get_or (row_of t m) 0 0 ≡ 1
  unfolding ends_right
  left_end m h = eqb-true _ 1 (and_l _ _ (ends_at m h))

  right_end : (m : ℕ) → m ≤ d → get_or (row_of t m) m 0 ≡ 1
  unfolding ends_right
  right_end m h = eqb-true _ 1 (and_r (eqb (get_or (row_of t m) 0 0) 1) _ (ends_at m h))

  sums : (m k : ℕ) → m < d → k < m → get_or (row_of t (suc m)) (suc k) 0 ≡ get_or (row_of t m) k 0 + get_or (row_of t m) (suc k) 0
  unfolding pascal sums_right
  sums m k h i =
      eqb-true _ _
      (at_below (λ k. eqb (get_or (row_of t (suc m)) (suc k) 0) (get_or (row_of t m) k 0 + get_or (row_of t m) (suc k) 0)) m
      (at_below (sums_right t) d (and_r (all_below (ends_right t) (suc d)) _ right) m h) k i)

  -- row m has the choose numbers of m
  pub in_row : (m k : ℕ) → m ≤ d → k ≤ m → get_or (row_of t m) k 0 ≡ binomial m k
  unfolding binomial
  in_row m zero h i = left_end m h
  in_row zero (suc k) h i = absurd (omega arith)
  in_row (suc m) (suc k) h i =
      elim (dec_lt k m) [
        | yes j ↦ sums m k (omega arith) j ∙ ap₂ (λ (a b : ℕ). a + b) (in_row m k (omega arith) (omega arith)) (in_row m (suc k) (omega arith) j)
        | no j ↦ let q : k ≡ m = omega arith in
            subst (λ (x : ℕ). get_or (row_of t (suc m)) (suc x) 0 ≡ binomial m x + binomial m (suc x)) (sym q)
            (right_end (suc m) h ∙ sym (binomial-all (suc m)))
      ]

-- ---- the table of the numbers up to 64

-- the one test, computed
right : pascal entries 64 ≡ true
unfolding pascal all_below ends_right sums_right row_of entries
right = refl

-- what the code reads
pub entry-is : (m k : ℕ) → k ≤ m → m ≤ 64 → get_or entries (m * (m + 1) / 2 + k) 0 ≡ binomial m k
unfolding row_of
entry-is m k h i = sym (get_or-drop (m * (m + 1) / 2) entries k 0) ∙ in_row entries 64 right m k i h

-- and where: the product and the place are small
pub product_small : (m : ℕ) → m ≤ 64 → m * (m + 1) ≤ 4160
product_small m h = let k : m + 1 ≤ 65 = omega arith in le_trans (mul-le-mul_left m k) (omega arith)
