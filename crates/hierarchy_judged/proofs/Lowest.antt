-- The turns of a loop that looks for the lowest number that passes a test.
-- Assumes nothing.
use mathlib.Core.Path.{◌≡◌, sym, ap, ◌∙◌}
use mathlib.Core.Bool.{Bool, true, false}
use mathlib.Core.Option.{none, some}
use Prim.Native.Nat.{ℕ, suc, ◌+◌, ◌-◌, ◌≤◌, ◌<◌}
use native.Mathlib.Omega.{arith}
use native.Mathlib.Numerals.{add-one}
use borrow.Author.Tests.{lt-ltb, le-ltb}
use Rattle.model.specs.Tests.{lowest, if_below}

-- from k up to n
module _ (f : ℕ → Bool) where
  pub lowest-all : (n : ℕ) → lowest f 0 (n - 0) ≡ lowest f 0 n
  lowest-all n = let z : n - 0 ≡ n = omega arith in ap (lowest f 0) z

  module _ (n k : ℕ) where
    -- the first is tested, and if it fails the rest
    abbrev tested : Bool → ℕ
    tested b = elim b [ true ↦ k | false ↦ lowest f (suc k) (n - (k + 1)) ]

    test : k < n → lowest f k (n - k) ≡ tested (f k)
    unfolding lowest
    test l = let z : n - k ≡ suc (n - (k + 1)) = omega arith in ap (lowest f k) z

    pub lowest_passes : k < n → f k ≡ true → k ≡ lowest f k (n - k)
    lowest_passes l e = sym (test l ∙ ap tested e)

    pub lowest_goes : k < n → f k ≡ false → lowest f (k + 1) (n - (k + 1)) ≡ lowest f k (n - k)
    lowest_goes l e = ap (λ (x : ℕ). lowest f x (n - (k + 1))) (add-one k) ∙ sym (test l ∙ ap tested e)

    pub lowest_ends : n ≤ k → k ≡ lowest f k (n - k)
    unfolding lowest
    lowest_ends l = let z : n - k ≡ 0 = omega arith in sym (ap (lowest f k) z)

-- a lowest number below the bound, and none below it
pub below_found : (n r k : ℕ) → r < n → r ≡ k → some r ≡ if_below n k
unfolding if_below
below_found n r k l e =
    sym (ap (if_below n) (sym e) ∙ ap (λ (b : Bool). elim b [ true ↦ some r | false ↦ none ]) (lt-ltb r n l))

pub below_none : (n k : ℕ) → n ≤ k → none ≡ if_below n k
unfolding if_below
below_none n k l = sym (ap (λ (b : Bool). elim b [ true ↦ some k | false ↦ none ]) (le-ltb k n l))
