-- Rows exchanged in blocks: two rows, the rows of a block, and which places are marked.
-- Assumes nothing.
use mathlib.Core.Path.{◌≡◌, refl, ◌∙◌}
use mathlib.Core.Bool.{true}
use mathlib.Core.List.{List}
use Prim.Native.Nat.{ℕ, ◌+◌, ◌-◌, ◌≤◌, ◌<◌}
use native.Mathlib.Omega.{arith}
use native.Mathlib.Decide.{dec_lt}
use lib.ListN.{length, get_or, set, length-set}
use lib.Seq.{get_or-set_same, get_or-set_other}
use borrow.Table.Steps.{cases}
use Rattle.model.specs.Sets.{has}
use Rattle.model_laws.proofs.Bools.{not_both}
use Rattle.grant_table_words.specs.Stages.{marks, exchanged, low_row, high_row, paired, MarkedFrom, Blocked}
use Rattle.grant_table_words.proofs.Exchanges.{above, above_not, below, below_marked, row_low, row_high}

module _ (j m : ℕ) (right : marks j m ≡ true) where
  -- ---- two rows, stored one behind the other
  pub pair_is : (a b : List ℕ) (k x y : ℕ) → k + j < 64 → has m k ≡ true → x ≡ low_row j m (get_or a k 0) (get_or a (k + j) 0)
      → y ≡ high_row j m (get_or a (k + j) 0) (get_or a k 0) → set (set b k x) (k + j) y ≡ paired j m a k b
  pair_is a b k x y h e p q =
      let z : k + j - j ≡ k = omega arith in
      let u : x ≡ exchanged j m a k = p ∙ row_low j m right a k e in
      let v : y ≡ exchanged j m a (k + j) = q ∙ (rw z at (row_high j m right a (k + j) (above_not j m right k (omega arith) e))) in
      rw (u, v)

  -- ---- which places are marked: from 0 on, and from two blocks further on
  pub marked_first : MarkedFrom j m 0
  marked_first k g h i = cases (has m k) (λ e. e) (λ e. absurd (omega (arith, below j m right k i e)))

  pub marked_next : (from : ℕ) → MarkedFrom j m from → MarkedFrom j m (from + j + j)
  marked_next from s k g h i =
      let z : k - j - j + j ≡ k - j = omega arith in
      let low = above_not j m right (k - j - j) (omega arith) (s (k - j - j) (omega arith) (omega arith) (omega arith)) in
      cases (has m k) (λ e. e)
      (λ e. not_both (has m (k - j)) (below_marked j m right k i e) (rw z at low))

  -- a block that starts in the table is in it, with the one behind it
  pub block_fits : (from : ℕ) → 0 < j → from < 64 → MarkedFrom j m from → from + j + j ≤ 64
  block_fits from p h s =
      let u = above j m right from h (s from (omega arith) (omega arith) h) in
      let v = above j m right (from + j - 1) (omega arith) (s (from + j - 1) (omega arith) (omega arith) (omega arith)) in
      omega arith

-- ---- the rows of a block
module _ (j m : ℕ) (a b : List ℕ) where
  pub block_starts : (from : ℕ) → length b ≡ 64 → Blocked j m from from a b b
  block_starts from e =
      record { size = e; kept = λ i h. refl; low = λ i g h. absurd (omega arith); high = λ i g h. absurd (omega arith) }

  pub block_goes : (from k : ℕ) (c d : List ℕ) → 0 < j → from ≤ k → k < from + j → k + j < 64 → Blocked j m from k a b c → d ≡ paired j m a k c
      → Blocked j m from (k + 1) a b d
  block_goes from k c d p g h t s e =
      let u = exchanged j m a k in
      let v = exchanged j m a (k + j) in
      let n : length (set c k u) ≡ 64 = length-set c k u ∙ s.size in
      let far : (i : ℕ) → (i ≡ k → ⊥) → (i ≡ k + j → ⊥) → get_or (paired j m a k c) i 0 ≡ get_or c i 0 =
      λ i x y. get_or-set_other (set c k u) (k + j) i v 0 y ∙ get_or-set_other c k i u 0 x in
      rw e (record {
        size = length-set (set c k u) (k + j) v ∙ n;
        kept = λ i x. far i (λ q. omega arith) (λ q. omega arith) ∙ s.kept i x;
        low = λ i x y. elim (dec_lt i k) [
          | yes z ↦ far i (λ q. omega arith) (λ q. omega arith) ∙ s.low i x z
          | no z ↦ let q : i ≡ k = omega arith in
              rw q (get_or-set_other (set c k u) (k + j) k v 0 (λ r. omega arith) ∙ get_or-set_same c k u 0 (omega arith))
        ];
        high = λ i x y. elim (dec_lt i (k + j)) [
          | yes z ↦ far i (λ q. omega arith) (λ q. omega arith) ∙ s.high i x z
          | no z ↦ let q : i ≡ k + j = omega arith in rw q (get_or-set_same (set c k u) (k + j) v 0 (omega arith))
        ];
      })

  -- rows before a block, and the block, are the rows before the next one
  pub rows-go : (from : ℕ) (c : List ℕ) → ((i : ℕ) → i < from → get_or b i 0 ≡ exchanged j m a i) → Blocked j m from (from + j) a b c
      → (i : ℕ) → i < from + j + j → get_or c i 0 ≡ exchanged j m a i
  rows-go from c e s i h =
      elim (dec_lt i from) [
        | yes x ↦ s.kept i x ∙ e i x
        | no x ↦ elim (dec_lt i (from + j)) [
          | yes y ↦ s.low i (omega arith) y
          | no y ↦ s.high i (omega arith) h
        ]
      ]
