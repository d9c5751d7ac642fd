-- Laws of the open sessions of a line: an open one's bit, and the lowest closed one.
-- Assumes nothing.
use mathlib.Core.Path.{◌≡◌, sym, ap, ◌∙◌}
use mathlib.Core.Bool.{Bool, true, false}
use Prim.Native.Nat.{ℕ, suc, ◌+◌, ◌-◌, ◌/◌, ◌%◌, ◌^◌, ◌≤◌, ◌<◌}
use native.Mathlib.Nat.{div-eq_of_lt}
use native.Mathlib.Numerals.{add-one}
use native.Mathlib.Omega.{arith}
use lib.Dec.{leb}
use borrow.Author.Tests.{eqb-true, leb-true, leb-false}
use borrow.Table.Steps.{cases}
use Rattle.model.specs.declared.Line.{Line}
use Rattle.model.specs.Sets.{has}
use Rattle.model.specs.Line.{is_open, lowest_closed}

-- a member's power of two is at most the set's number
pub member_le : (s k : ℕ) → has s k ≡ true → 2 ^ k ≤ s
unfolding has
member_le s k h =
    cases (leb (2 ^ k) s) (leb-true (2 ^ k) s)
    (λ e.
    let z : s / 2 ^ k ≡ 0 = div-eq_of_lt (leb-false (2 ^ k) s e) in
    let y : ◌≡◌ {A = ℕ} 0 1 = rw z at (eqb-true (s / 2 ^ k % 2) 1 h) in
    absurd (omega arith))

pub open_le : (l : Line) (k : ℕ) → is_open l k ≡ true → 2 ^ k ≤ l.opened
unfolding is_open
open_le l k h = member_le l.opened k h

-- an open session is passed over
passed : (l : Line) (k d : ℕ) → is_open l k ≡ true → lowest_closed l k (suc d) ≡ lowest_closed l (suc k) d
unfolding lowest_closed
passed l k d o = rw (lowest_closed, o)

-- ---- the lowest closed one of W sessions, looked for from session k on, by a test b of session k
module _ (l : Line) (W k : ℕ) where
  pub lowest_here : {b : Bool} → k < W → b ≡ is_open l k → b ≡ false → k ≡ lowest_closed l k (W - k)
  unfolding lowest_closed
  lowest_here h t o =
      let e : W - k ≡ suc (W - (k + 1)) = omega arith in
      rw (e, lowest_closed, sym t ∙ o)

  pub lowest-next : {b : Bool} → k < W → b ≡ is_open l k → b ≡ true → lowest_closed l (k + 1) (W - (k + 1)) ≡ lowest_closed l k (W - k)
  lowest-next h t o =
      let e : W - k ≡ suc (W - (k + 1)) = omega arith in
      ap (λ (j : ℕ). lowest_closed l j (W - (k + 1))) (add-one k) ∙ sym (passed l k (W - (k + 1)) (sym t ∙ o))
      ∙ ap (lowest_closed l k) (sym e)

  pub lowest_none : W ≤ k → k ≤ W → W ≡ lowest_closed l k (W - k)
  unfolding lowest_closed
  lowest_none h i =
      let e : W - k ≡ 0 = omega arith in
      let q : W ≡ k = omega arith in
      q ∙ ap (lowest_closed l k) (sym e)
