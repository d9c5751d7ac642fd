-- Sums of choose numbers.
-- Assumes nothing.
use mathlib.Core.Path.{◌≡◌, refl, sym, ap, ◌∙◌, subst}
use Prim.Native.Nat.{ℕ, zero, suc, ◌+◌, ◌^◌, ◌≤◌, ◌<◌}
use native.Mathlib.Nat.{pow-suc, lt_of_lt_of_le}
use native.Mathlib.Numerals.{add-one}
use native.Mathlib.Omega.{arith}
use native.Mathlib.Decide.{dec_lt}
use lib.Pow.{pow_mono}
use mir.Syntax.{w64}
use mir.Val.{Fits}
use Rattle.model_binomials.specs.Binomial.{binomial, sum_below}
use Rattle.model_binomials.proofs.Rule.{binomial_beyond, binomial-all}

-- one term more
pub sum-next : (f : ℕ → ℕ) (k : ℕ) → sum_below f (k + 1) ≡ sum_below f k + f k
unfolding sum_below
sum-next f k = ap (sum_below f) (add-one k)

-- Pascal's rule for the sums: with one thing more, the sets without it and those with it
pub sum_pascal : (m n : ℕ) → sum_below (binomial (suc m)) (suc n) ≡ sum_below (binomial m) (suc n) + sum_below (binomial m) n
unfolding sum_below binomial
sum_pascal m zero = refl
sum_pascal m (suc n) = omega (arith, sum_pascal m n)

-- more terms make no smaller sum
sum_grows : (f : ℕ → ℕ) (n d : ℕ) → n ≤ d → sum_below f n ≤ sum_below f d
unfolding sum_below
sum_grows f n zero h = let q : n ≡ 0 = omega arith in rw q (omega arith)
sum_grows f n (suc d) h =
    elim (dec_lt d n) [
      | yes i ↦ let q : n ≡ suc d = omega arith in rw q (omega arith)
      | no i ↦ omega (arith, sum_grows f n d (omega arith))
    ]

-- all sets out of m
pub sum-all : (m : ℕ) → sum_below (binomial m) (suc m) ≡ 2 ^ m
unfolding sum_below binomial
sum-all zero = refl
sum-all (suc m) =
    sum_pascal m (suc m) ∙ omega (arith, sum-all m, binomial_beyond m (suc m) (omega arith), pow-suc 2 m)

-- the sets of fewer than n, for n up to m, leave out that of all
pub sum_below_lem : (m n : ℕ) → n ≤ m → sum_below (binomial m) n < 2 ^ m
sum_below_lem m n h =
    let e : sum_below (binomial m) (suc m) ≡ sum_below (binomial m) m + binomial m m = unfold sum_below in refl in
    omega (arith, sum_grows (binomial m) n m h, e, binomial-all m, sum-all m)

-- so they are fewer than 2 ^ 64
pub sum_fits : (m n : ℕ) → n ≤ m → m ≤ 64 → sum_below (binomial m) n < 2 ^ 64
sum_fits m n h i = lt_of_lt_of_le (sum_below_lem m n h) (pow_mono i)

-- ---- one turn of a loop that adds the terms up: a is the sum of those below k, r the next term
module _ (m k a r : ℕ) (ea : a ≡ sum_below (binomial m) k) (er : r ≡ binomial m k) where
  pub turn-next : a + r ≡ sum_below (binomial m) (k + 1)
  turn-next = omega (arith, sum-next (binomial m) k)

  pub turn-fits : (n : ℕ) → k < n → n ≤ m → m ≤ 64 → Fits w64 (a + r)
  turn-fits n h i j = record { fits = subst (λ (x : ℕ). x < 2 ^ 64) (sym turn-next) (sum_fits m (k + 1) (omega arith) j) }

-- and its end
pub turn_last : (m n k a : ℕ) → a ≡ sum_below (binomial m) k → k ≤ n → n ≤ k → a ≡ sum_below (binomial m) n
turn_last m n k a e h i = let q : k ≡ n = omega arith in e ∙ ap (sum_below (binomial m)) q
