-- The roles that have a limit, as a table of one column: its bits, and how many there are.
-- Assumes nothing.
use mathlib.Core.Path.{◌≡◌, refl, sym, ap, ◌∙◌, subst}
use mathlib.Core.Bool.{Bool, true, false, not, true≢false}
use mathlib.Core.List.{List, [], ◌∷◌, map}
use Prim.Native.Nat.{ℕ, zero, suc, ◌+◌, ◌≤◌, ◌<◌}
use native.Mathlib.Omega.{arith}
use lib.Dec.{eqb}
use lib.ListN.{get_or, set, get_or-map}
use borrow.Author.Tests.{eq-eqb}
use Rattle.model.specs.Sets.{has, one, count_to, count}
use Rattle.model.specs.Policy.{limited}
use Rattle.model_tidy.specs.Tidy.{limited_rows}
use Rattle.model_laws.proofs.Bools.{not_both}
use Rattle.model_laws.proofs.UnionLaws.{has_none, has_below}
use Rattle.model_tidy_laws.proofs.TidyLists.{tally}

-- a row has its bit exactly if the role has a limit
pub row_is : (limits : List ℕ) (r : ℕ) → get_or (limited_rows limits) r 0 ≡ one (limited limits r)
unfolding limited_rows limited
row_is limits r =
    ap (get_or (map (λ t. one (not (eqb t 0))) limits) r) (ap (λ (b : Bool). one (not b)) (sym (eq-eqb 0 0 refl)))
    ∙ get_or-map (λ t. one (not (eqb t 0))) limits r 0

bit_is : (b : Bool) (j : ℕ) → has (one b) j ≡ true → (j < 1) × (b ≡ true)
bit_is true j e = (has_below 1 1 j (omega arith) e, refl)
bit_is false j e = not_both (has 0 j) e (has_none j)

is_bit : (b : Bool) → b ≡ true → has (one b) 0 ≡ true
unfolding has
is_bit true e = refl
is_bit false e = absurd (true≢false (sym e))

pub row-limited : (limits : List ℕ) (r j : ℕ) → has (get_or (limited_rows limits) r 0) j ≡ true → (j < 1) × (limited limits r ≡ true)
row-limited limits r j e = bit_is (limited limits r) j (subst (λ (s : ℕ). has s j ≡ true) (row_is limits r) e)

pub limited-row : (limits : List ℕ) (r : ℕ) → limited limits r ≡ true → has (get_or (limited_rows limits) r 0) 0 ≡ true
limited-row limits r e = subst (λ (s : ℕ). has s 0 ≡ true) (sym (row_is limits r)) (is_bit (limited limits r) e)

-- a limit put in makes at most one more
bit_count : (b : Bool) → count 1 (one b) ≤ 1
unfolding count count_to
bit_count b = most (has (one b) 0)
  where
    most : (c : Bool) → one c + 0 ≤ 1
    most true = omega arith
    most false = omega arith

pub tally_limit : (limits : List ℕ) (i v : ℕ) → tally 1 (limited_rows (set limits i v)) ≤ suc (tally 1 (limited_rows limits))
unfolding limited_rows tally
tally_limit [] i v = omega arith
tally_limit (t ∷ ts) zero v = let a = bit_count (not (eqb v 0)) in omega arith
tally_limit (t ∷ ts) (suc i) v = let a = tally_limit ts i v in omega arith
