-- The members of a union of rows: each is a member of some row that the set names. Sets of a width have unions of that
-- width.
-- Assumes nothing.
use mathlib.Core.Path.{◌≡◌, refl, sym, ap, ap₂, ◌∙◌}
use mathlib.Core.Logic.{◌⊎◌, inl, inr, ◌↔◌}
use mathlib.Core.Bool.{Bool, true, false, ◌&&◌, ◌||◌}
use mathlib.Core.List.{List}
use Prim.Native.Nat.{ℕ, zero, suc, ◌<◌, ◌^◌, zero-le}
use native.Mathlib.Nat.{le_refl}
use native.Mathlib.Decide.{dec_lt}
use native.Mathlib.Omega.{arith}
use lib.Dec.{lit<}
use lib.Bits.{bit_or, or_lt}
use lib.Pow.{pow_pos}
use lib.ListN.{get_or}
use Rattle.model.specs.Tests.{pick}
use Rattle.model.specs.Sets.{has, union_to, union_at}
use Rattle.model_laws.proofs.Bools.{and_l, and_r, both, or_l, or_r, or_cases, not_both, pick-case}
use Rattle.model_laws.proofs.SetLaws.{has-union, has_beyond}

-- the empty set has no member
pub has_none : (k : ℕ) → has 0 k ≡ false
has_none k = has_beyond 0 0 k (lit< tt) zero-le

-- a member of a set of width d is below d
pub has_below : (d n k : ℕ) → n < 2 ^ d → has n k ≡ true → k < d
has_below d n k l h = elim (dec_lt k d) [ yes q ↦ q | no q ↦ not_both (has n k) h (has_beyond d n k l (omega arith)) ]

-- a number below d + 1 is below d or d itself
pub below_or_last : (k d : ℕ) → k < suc d → (k < d) ⊎ (k ≡ d)
below_or_last k d h = elim (dec_lt k d) [ yes q ↦ inl q | no q ↦ inr (omega arith) ]

-- some member of s below d has a row that holds m
pub record Held (row : ℕ → ℕ) (s d m : ℕ) : Type 0 where
  pub member : ℕ
  pub below : member < d
  pub chosen : has s member ≡ true
  pub holds : has (row member) m ≡ true

-- the members of a row taken or not
has_picked : (b : Bool) (row m : ℕ) → has (pick b row 0) m ≡ (b && has row m)
unfolding pick
has_picked true row m = refl
has_picked false row m = has_none m

module _ (row : ℕ → ℕ) (s m : ℕ) where
  -- a union of one row more
  pub has-union_to-next : (d : ℕ) → has (union_to row s (suc d)) m ≡ (has (union_to row s d) m || (has s d && has (row d) m))
  unfolding union_to
  has-union_to-next d =
      has-union (union_to row s d) (pick (has s d) (row d) 0) m
      ∙ ap (λ (b : Bool). has (union_to row s d) m || b) (has_picked (has s d) (row d) m)

  -- a member of the union comes from some row
  union_to-held : (d : ℕ) → has (union_to row s d) m ≡ true → Held row s d m
  unfolding union_to
  union_to-held zero e = not_both (has 0 m) e (has_none m)
  union_to-held (suc d) e =
      elim (or_cases (has (union_to row s d) m) (has s d && has (row d) m) (sym (has-union_to-next d) ∙ e)) [
        | inl h ↦ let w = union_to-held d h in record { member = w.member; below = omega arith; chosen = w.chosen; holds = w.holds }
        | inr h ↦
            record {
              member = d;
              below = le_refl (suc d);
              chosen = and_l (has s d) (has (row d) m) h;
              holds = and_r (has s d) (has (row d) m) h;
            }
      ]

  -- a member of a row that s names is one of the union
  held-union_to : (d : ℕ) → Held row s d m → has (union_to row s d) m ≡ true
  held-union_to zero w = absurd (omega arith)
  held-union_to (suc d) w =
      has-union_to-next d
      ∙ elim (below_or_last w.member d w.below) [
        | inl l ↦ or_l _ _ (held-union_to d (record { member = w.member; below = l; chosen = w.chosen; holds = w.holds }))
        | inr q ↦ or_r (has (union_to row s d) m) _ (both (has s d) (has (row d) m) (rw q at w.chosen) (rw q at w.holds))
      ]

  -- the members of the union of the rows that s names below d
  pub has-union_to : (d : ℕ) → (has (union_to row s d) m ≡ true) ↔ Held row s d m
  has-union_to d = (union_to-held d, held-union_to d)

-- the members of the union of the rows of a table
pub has-union_at : (rows : List ℕ) (s m : ℕ) → (has (union_at rows s) m ≡ true) ↔ Held (λ r. get_or rows r 0) s 64 m
unfolding union_at
has-union_at rows s m = has-union_to (λ r. get_or rows r 0) s m 64

-- rows of width w have a union of width w
pub union_to_lt : (w : ℕ) (row : ℕ → ℕ) (s d : ℕ) → ((k : ℕ) → k < d → row k < 2 ^ w) → union_to row s d < 2 ^ w
unfolding union_to
union_to_lt w row s zero h = pow_pos w
union_to_lt w row s (suc d) h =
    or_lt w (union_to row s d) (pick (has s d) (row d) 0) (union_to_lt w row s d (λ k l. h k (omega arith)))
    (pick-case (λ (x : ℕ). x < 2 ^ w) (has s d) (row d) 0 (λ e. h d (le_refl (suc d))) (λ e. pow_pos w))

-- the empty set names no row
pub union_to_none : (row : ℕ → ℕ) (d : ℕ) → union_to row 0 d ≡ 0
unfolding union_to pick
union_to_none row zero = refl
union_to_none row (suc d) =
    ap₂ (λ (x : ℕ) (b : Bool). bit_or x (pick b (row d) 0)) (union_to_none row d) (has_none d)

-- and no row of a table
pub union_at_none : (rows : List ℕ) → union_at rows 0 ≡ 0
unfolding union_at
union_at_none rows = union_to_none (λ r. get_or rows r 0) 64
