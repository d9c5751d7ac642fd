-- An exchange of two rows, by bits; and what a marking mask says.
-- Assumes nothing.
use mathlib.Core.Path.{◌≡◌, refl, sym, ap, ap₂, ◌∙◌, subst}
use mathlib.Core.Bool.{Bool, true, false, ◌&&◌, ◌||◌, not, or-false, and-false, and-true}
use mathlib.Core.List.{List}
use Prim.Native.Nat.{ℕ, ◌+◌, ◌-◌, ◌*◌, ◌/◌, ◌%◌, ◌^◌, ◌≤◌, ◌<◌}
use native.Mathlib.Nat.{mod-lt, lt_of_le_of_lt}
use native.Mathlib.Omega.{arith}
use native.Mathlib.Decide.{dec_lt}
use lib.Dec.{eqb, ltb, leb}
use lib.Pow.{pow_pos, shr_le}
use lib.Bits.{and_le_l, or_lt}
use lib.ListN.{get_or}
use mir.Syntax.{w64}
use mir.Val.{Fits}
use borrow.Table.Steps.{cases}
use borrow.Author.Tests.{ltb-true, leb-true, not-true}
use Rattle.model.specs.Tests.{pick}
use Rattle.model.specs.Sets.{has, union, inter, one}
use Rattle.model_laws.proofs.Bools.{and_l, and_r, not_both, pick-case}
use Rattle.model_laws.proofs.Every.{at_below}
use Rattle.model_laws.proofs.SetLaws.{has-union, has-inter}
use Rattle.grant_table_words.specs.Stages.{marks, across, alike, Place, source, bit_at, exchanged, low_row, high_row, Exchanged}
use Rattle.grant_table_words.proofs.SetTests.{set_of_bit, set_of-members, set_of_same}
use Rattle.grant_table_words.proofs.Shifts.{has_shr, has_shl, has_shl_none}

-- ---- a mask that marks one of each two places that are j apart
module _ (j m : ℕ) (right : marks j m ≡ true) where
  -- the test at c
  test : (c : ℕ) → c < 64 → pick (has m c) (ltb (c + j) 64 && not (has m (c + j))) (leb j c && has m (c - j)) ≡ true
  unfolding marks
  test c h = at_below (λ c. pick (has m c) (ltb (c + j) 64 && not (has m (c + j))) (leb j c && has m (c - j))) 64 right c h

  marked : (c : ℕ) → c < 64 → has m c ≡ true → (ltb (c + j) 64 && not (has m (c + j))) ≡ true
  unfolding pick
  marked c h e = rw e at (test c h)

  other : (c : ℕ) → c < 64 → has m c ≡ false → (leb j c && has m (c - j)) ≡ true
  unfolding pick
  other c h e = rw e at (test c h)

  -- the place above a marked one is there, and not marked
  pub above : (c : ℕ) → c < 64 → has m c ≡ true → c + j < 64
  above c h e = ltb-true (c + j) 64 (and_l _ (not (has m (c + j))) (marked c h e))

  pub above_not : (c : ℕ) → c < 64 → has m c ≡ true → has m (c + j) ≡ false
  above_not c h e = not-true (has m (c + j)) (and_r (ltb (c + j) 64) _ (marked c h e))

  -- the place below one that is not marked is there, and marked
  pub below : (c : ℕ) → c < 64 → has m c ≡ false → j ≤ c
  below c h e = leb-true j c (and_l _ (has m (c - j)) (other c h e))

  pub below_marked : (c : ℕ) → c < 64 → has m c ≡ false → has m (c - j) ≡ true
  below_marked c h e = and_r (leb j c) _ (other c h e)

  -- the place below a marked one is not marked
  below_not : (c : ℕ) → c < 64 → has m c ≡ true → j ≤ c → has m (c - j) ≡ false
  below_not c h e i =
      let s : c - j + j ≡ c = omega arith in
      cases (has m (c - j)) (λ q. not_both (has m c) e (subst (λ (x : ℕ). has m x ≡ false) s (above_not (c - j) (omega arith) q))) (λ q. q)

  -- the mask shifted up is the places that are not marked
  shifted : (x c : ℕ) → c < 64 → has m c ≡ true → has (inter x m * 2 ^ j % 2 ^ 64) c ≡ false
  shifted x c h e =
      elim (dec_lt c j) [
        | yes i ↦ has_shl_none (inter x m) j c h i
        | no i ↦ has_shl (inter x m) j c h (omega arith) ∙ has-inter x m (c - j)
            ∙ ap (λ (b : Bool). has x (c - j) && b) (below_not c h e (omega arith)) ∙ and-false (has x (c - j))
      ]

  -- ---- the two rows, as the machine makes them
  module _ (own oth : ℕ) (fo : Fits w64 own) (fx : Fits w64 oth) where
    low_bit : (c : ℕ) → c < 64 → has (union (inter own m) (inter oth m * 2 ^ j % 2 ^ 64)) c ≡ pick (has m c) (has own c) (has oth (c - j))
    unfolding pick
    low_bit c h =
        has-union (inter own m) (inter oth m * 2 ^ j % 2 ^ 64) c
        ∙ ap (λ (b : Bool). b || has (inter oth m * 2 ^ j % 2 ^ 64) c) (has-inter own m c) ∙ go (has m c) refl
      where
        go : (b : Bool) → has m c ≡ b → ((has own c && b) || has (inter oth m * 2 ^ j % 2 ^ 64) c) ≡ pick b (has own c) (has oth (c - j))
        go true e = ap₂ (λ (x y : Bool). x || y) (and-true (has own c)) (shifted oth c h e) ∙ or-false (has own c)
        go false e =
            ap₂ (λ (x y : Bool). x || y) (and-false (has own c))
            (has_shl (inter oth m) j c h (below c h e) ∙ has-inter oth m (c - j)
            ∙ ap (λ (b : Bool). has oth (c - j) && b) (below_marked c h e) ∙ and-true (has oth (c - j)))

    pub low-is : union (inter own m) (inter oth m * 2 ^ j % 2 ^ 64) ≡ low_row j m own oth
    unfolding low_row
    low-is =
        sym (set_of-members 64 (union (inter own m) (inter oth m * 2 ^ j % 2 ^ 64))
        (or_lt 64 (inter own m) (inter oth m * 2 ^ j % 2 ^ 64) (lt_of_le_of_lt (and_le_l own m) fo.fits) (mod-lt (inter oth m * 2 ^ j) (pow_pos 64)))
        (λ c. pick (has m c) (has own c) (has oth (c - j))) (λ c h. sym (low_bit c h)))

    high_bit : (c : ℕ) → c < 64 → has (union (inter (oth / 2 ^ j) m) (inter own (m * 2 ^ j % 2 ^ 64))) c ≡ pick (has m c) (has oth (c + j)) (has own c)
    unfolding pick
    high_bit c h =
        has-union (inter (oth / 2 ^ j) m) (inter own (m * 2 ^ j % 2 ^ 64)) c
        ∙ ap₂ (λ (x y : Bool). x || y) (has-inter (oth / 2 ^ j) m c ∙ ap (λ (b : Bool). b && has m c) (has_shr oth j c)) (has-inter own (m * 2 ^ j % 2 ^ 64) c)
        ∙ go (has m c) refl
      where
        up : has m c ≡ false → has (m * 2 ^ j % 2 ^ 64) c ≡ true
        up e = has_shl m j c h (below c h e) ∙ below_marked c h e

        none : has m c ≡ true → has (m * 2 ^ j % 2 ^ 64) c ≡ false
        none e =
            elim (dec_lt c j) [
              | yes i ↦ has_shl_none m j c h i
              | no i ↦ has_shl m j c h (omega arith) ∙ below_not c h e (omega arith)
            ]

        go : (b : Bool) → has m c ≡ b → ((has oth (c + j) && b) || (has own c && has (m * 2 ^ j % 2 ^ 64) c)) ≡ pick b (has oth (c + j)) (has own c)
        go true e =
            ap₂ (λ (x y : Bool). x || (has own c && y)) (and-true (has oth (c + j))) (none e)
            ∙ ap (λ (y : Bool). has oth (c + j) || y) (and-false (has own c)) ∙ or-false (has oth (c + j))
        go false e =
            ap₂ (λ (x y : Bool). x || (has own c && y)) (and-false (has oth (c + j))) (up e) ∙ and-true (has own c)

    pub high_is : union (inter (oth / 2 ^ j) m) (inter own (m * 2 ^ j % 2 ^ 64)) ≡ high_row j m own oth
    unfolding high_row
    high_is =
        sym (set_of-members 64 (union (inter (oth / 2 ^ j) m) (inter own (m * 2 ^ j % 2 ^ 64)))
        (or_lt 64 (inter (oth / 2 ^ j) m) (inter own (m * 2 ^ j % 2 ^ 64))
        (lt_of_le_of_lt (and_le_l (oth / 2 ^ j) m) (lt_of_le_of_lt (shr_le oth j) fx.fits))
        (lt_of_le_of_lt (and_le_l own (m * 2 ^ j % 2 ^ 64)) fo.fits))
        (λ c. pick (has m c) (has oth (c + j)) (has own c)) (λ c h. sym (high_bit c h)))

  -- ---- the two rows, as the exchange has them
  module _ (a : List ℕ) (k : ℕ) where
    -- where a bit comes from, by the marks of its row and of its place
    source_is : (c : ℕ) (x y : Bool) → has m k ≡ x → has m c ≡ y
        → source j m (record { row = k; bit = c })
        ≡ pick (eqb (one x) (one y)) (record { row = k; bit = c }) (record { row = pick x (k + j) (k - j); bit = pick y (c + j) (c - j) })
    unfolding source alike across
    source_is c x y e q =
        ap₂ {C = Place}
        (λ (x y : Bool). pick {X = Place} (eqb (one x) (one y)) (record { row = k; bit = c })
        (record { row = pick x (k + j) (k - j); bit = pick y (c + j) (c - j) }))
        e q

    pub row_low : has m k ≡ true → low_row j m (get_or a k 0) (get_or a (k + j) 0) ≡ exchanged j m a k
    unfolding low_row exchanged
    row_low e =
        set_of_same (λ c. pick (has m c) (has (get_or a k 0) c) (has (get_or a (k + j) 0) (c - j))) (λ c. bit_at a
        (source j m (record { row = k; bit = c }))) 64
        (λ c h. go c (has m c) refl)
      where
        go : (c : ℕ) (b : Bool) → has m c ≡ b
            → pick b (has (get_or a k 0) c) (has (get_or a (k + j) 0) (c - j)) ≡ bit_at a (source j m (record { row = k; bit = c }))
        go c true q = unfold pick bit_at in (sym (ap (bit_at a) (source_is c true true e q)))
        go c false q = unfold pick bit_at in (sym (ap (bit_at a) (source_is c true false e q)))

    pub row_high : has m k ≡ false → high_row j m (get_or a k 0) (get_or a (k - j) 0) ≡ exchanged j m a k
    unfolding high_row exchanged
    row_high e =
        set_of_same (λ c. pick (has m c) (has (get_or a (k - j) 0) (c + j)) (has (get_or a k 0) c)) (λ c. bit_at a
        (source j m (record { row = k; bit = c }))) 64
        (λ c h. go c (has m c) refl)
      where
        go : (c : ℕ) (b : Bool) → has m c ≡ b
            → pick b (has (get_or a (k - j) 0) (c + j)) (has (get_or a k 0) c) ≡ bit_at a (source j m (record { row = k; bit = c }))
        go c true q = unfold pick bit_at in (sym (ap (bit_at a) (source_is c false true e q)))
        go c false q = unfold pick bit_at in (sym (ap (bit_at a) (source_is c false false e q)))

  -- ---- one exchange: each bit comes from its source, which is in the table
  across_inside : (x : ℕ) → x < 64 → across j m x < 64
  unfolding across
  across_inside x h = pick-case (λ y. y < 64) (has m x) (x + j) (x - j) (λ e. above x h e) (λ e. omega arith)

  pub source_inside : (q : Place) → q.row < 64 → q.bit < 64 → ((source j m q).row < 64) × ((source j m q).bit < 64)
  unfolding source
  source_inside q h i =
      pick-case (λ y. (y.row < 64) × (y.bit < 64)) (alike m q.row q.bit) q _ (λ _. (h, i))
      (λ _. (across_inside q.row h, across_inside q.bit i))

  pub bit_source : (a b : List ℕ) → Exchanged j m a b → (q : Place) → q.row < 64 → q.bit < 64 → bit_at b q ≡ bit_at a (source j m q)
  unfolding bit_at
  bit_source a b e q h i =
      ap (λ (x : ℕ). has x q.bit) (e q.row h)
      ∙ unfold exchanged in (set_of_bit (λ c. bit_at a (source j m (record { row = q.row; bit = c }))) 64 q.bit i)
