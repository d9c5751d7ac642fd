-- Six exchanges transpose: where each of the 4,096 bits comes from is one test that antt computes.
-- Assumes nothing.
use mathlib.Core.Path.{◌≡◌, refl, ap, ◌∙◌}
use mathlib.Core.Bool.{Bool, true, ◌&&◌}
use mathlib.Core.List.{List}
use Prim.Native.Nat.{ℕ, ◌<◌}
use lib.Dec.{eqb}
use lib.ListN.{get_or}
use borrow.Author.Tests.{eqb-true}
use Rattle.model.specs.Tests.{pick, all_below}
use Rattle.model.specs.Sets.{has}
use Rattle.model_laws.proofs.Bools.{and_l, and_r}
use Rattle.model_laws.proofs.Every.{at_below}
use Rattle.grant_table_words.specs.Stages.{marks, across, alike, Place, source, bit_at, exchanged, Exchanged, column_of, Transposed}
use Rattle.grant_table_words.proofs.SetTests.{set_of_same}
use Rattle.grant_table_words.proofs.Exchanges.{source_inside, bit_source}

-- ---- the six masks mark
pub marks_32 : marks 32 0x00000000FFFFFFFF ≡ true
unfolding marks all_below has pick
marks_32 = refl

pub marks_16 : marks 16 0x0000FFFF0000FFFF ≡ true
unfolding marks all_below has pick
marks_16 = refl

pub marks_8 : marks 8 0x00FF00FF00FF00FF ≡ true
unfolding marks all_below has pick
marks_8 = refl

pub marks-4 : marks 4 0x0F0F0F0F0F0F0F0F ≡ true
unfolding marks all_below has pick
marks-4 = refl

pub marks-2 : marks 2 0x3333333333333333 ≡ true
unfolding marks all_below has pick
marks-2 = refl

pub marks_1 : marks 1 0x5555555555555555 ≡ true
unfolding marks all_below has pick
marks_1 = refl

-- ---- where the bits come from, through the six exchanges
from : Place → Place
from q =
    source 32 0x00000000FFFFFFFF
    (source 16 0x0000FFFF0000FFFF
    (source 8 0x00FF00FF00FF00FF (source 4 0x0F0F0F0F0F0F0F0F (source 2 0x3333333333333333 (source 1 0x5555555555555555 q)))))

-- bit c of row k comes from bit k of row c
crossed : ℕ → ℕ → Bool
crossed k c = let q = from (record { row = k; bit = c }) in eqb q.row c && eqb q.bit k

all-crossed : all_below (λ k. all_below (crossed k) 64) 64 ≡ true
unfolding all_below crossed from source alike across has pick
all-crossed = refl

from_is : (k c : ℕ) → k < 64 → c < 64 → from (record { row = k; bit = c }) ≡ record { row = c; bit = k }
unfolding crossed
from_is k c h i =
    let e = at_below (crossed k) 64 (at_below (λ k. all_below (crossed k) 64) 64 all-crossed k h) c i in
    let q = from (record { row = k; bit = c }) in
    λ t. record { row = eqb-true q.row c (and_l _ _ e) t; bit = eqb-true q.bit k (and_r (eqb q.row c) _ e) t }

-- ---- the six exchanges
module _ (a b c d e f r : List ℕ)
    (ab : Exchanged 32 0x00000000FFFFFFFF a b) (bc : Exchanged 16 0x0000FFFF0000FFFF b c) (cd : Exchanged 8 0x00FF00FF00FF00FF c d)
    (de : Exchanged 4 0x0F0F0F0F0F0F0F0F d e) (ef : Exchanged 2 0x3333333333333333 e f) (fr : Exchanged 1 0x5555555555555555 f r) where
  -- back through five of them
  back : (q : Place) → q.row < 64 → q.bit < 64
      → bit_at f q
      ≡ bit_at a (source 32 0x00000000FFFFFFFF (source 16 0x0000FFFF0000FFFF (source 8 0x00FF00FF00FF00FF
      (source 4 0x0F0F0F0F0F0F0F0F (source 2 0x3333333333333333 q)))))
  back q h i =
      let q2 = source 2 0x3333333333333333 q in
      let i2 = source_inside 2 0x3333333333333333 marks-2 q h i in
      let q4 = source 4 0x0F0F0F0F0F0F0F0F q2 in
      let i4 = source_inside 4 0x0F0F0F0F0F0F0F0F marks-4 q2 i2.0 i2.1 in
      let q8 = source 8 0x00FF00FF00FF00FF q4 in
      let i8 = source_inside 8 0x00FF00FF00FF00FF marks_8 q4 i4.0 i4.1 in
      let q16 = source 16 0x0000FFFF0000FFFF q8 in
      let i16 = source_inside 16 0x0000FFFF0000FFFF marks_16 q8 i8.0 i8.1 in
      bit_source 2 0x3333333333333333 marks-2 e f ef q h i
      ∙ bit_source 4 0x0F0F0F0F0F0F0F0F marks-4 d e de q2 i2.0 i2.1
      ∙ bit_source 8 0x00FF00FF00FF00FF marks_8 c d cd q4 i4.0 i4.1
      ∙ bit_source 16 0x0000FFFF0000FFFF marks_16 b c bc q8 i8.0 i8.1
      ∙ bit_source 32 0x00000000FFFFFFFF marks_32 a b ab q16 i16.0 i16.1

  pub transposed : Transposed a r
  unfolding exchanged column_of from
  transposed k h =
      fr k h
      ∙ set_of_same (λ y. bit_at f (source 1 0x5555555555555555 (record { row = k; bit = y }))) (λ y. has (get_or a y 0) k) 64
      (λ y i. let q = source 1 0x5555555555555555 (record { row = k; bit = y }) in
      let j = source_inside 1 0x5555555555555555 marks_1 (record { row = k; bit = y }) h i in
      back q j.0 j.1 ∙ ap (bit_at a) (from_is k y h i) ∙ unfold bit_at in refl)
