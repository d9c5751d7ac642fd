-- What one set has and another lacks, of role sets and of permission sets in four words.
-- Assumes nothing.
use mathlib.Core.Path.{◌≡◌, refl, sym, ap, ap₂, ◌∙◌}
use mathlib.Core.Bool.{Bool, true, false, ◌&&◌, not}
use mathlib.Core.List.{List}
use mathlib.Core.Option.{none, some}
use Prim.Native.Nat.{ℕ, ◌+◌, ◌*◌, ◌-◌, ◌/◌, ◌%◌, ◌≤◌, ◌<◌}
use native.Mathlib.Nat.{mod-lt, div-add-mod'}
use native.Mathlib.Decide.{dec_lt}
use native.Mathlib.Omega.{arith}
use mir.Val.{Fits}
use mir.Syntax.{w64}
use lib.Dec.{ltb, lit<}
use lib.ListN.{get_or}
use borrow.Author.Tests.{ltb-true, ltb-false}
use Rattle.model.specs.Tests.{lowest, if_below}
use Rattle.model.specs.Sets.{has, within}
use Rattle.model_laws.proofs.Blocking.{below_none, below_some}
use Rattle.model_laws.proofs.Bools.{and_l, and_r, not_both}
use Rattle.model_laws.proofs.SetLaws.{has_beyond}
use Rattle.model_laws.proofs.UnionLaws.{has_none}
use Rattle.sets.specs.Members.{Lowest}
use Rattle.sets_split.specs.Split.{Splits}
use Rattle.sets.specs.Words.{value}
use Rattle.sets.proofs.Machine.{value-has, value_lt}
use Rattle.sets.proofs.Taken.{lacking, has-lacking, lowest_least}
use Rattle.query.specs.Carry.{Missing}
use Rattle.query.proofs.Members.{sub_within, no_member}

nothing-lacks : (a b k : ℕ) → lacking a b ≡ 0 → has a k ≡ true → has b k ≡ true
nothing-lacks a b k e m = go (has b k) refl
  where
    go : (y : Bool) → has b k ≡ y → has b k ≡ true
    go true p = p
    go false p = no_member k (ap (λ (x : ℕ). has x k) (sym e) ∙ has-lacking a b k ∙ ap₂ (λ (x y : Bool). x && not y) m p)

module _ (a b : List ℕ) (ha : (i : ℕ) → Fits w64 (get_or a i 0)) (hb : (i : ℕ) → Fits w64 (get_or b i 0)) where
  -- where no word lacks anything, the set is within the other
  pub words-within : ((j : ℕ) → j < 4 → lacking (get_or a j 0) (get_or b j 0) ≡ 0) → within (value a) (value b) ≡ true
  words-within h = sub_within (value a) (value b) (λ p m. go p m (ltb p 256) refl)
    where
      place : (p : ℕ) → p < 256 → Splits p (p / 64) (p % 64)
      place p l = record { whole = div-add-mod' p 64; inside = omega arith; small = mod-lt p (lit< tt) }

      go : (p : ℕ) → has (value a) p ≡ true → (x : Bool) → ltb p 256 ≡ x → has (value b) p ≡ true
      go p m true l =
          let s = place p (ltb-true p 256 l) in
          sym (value-has b hb p (p / 64) (p % 64) s)
          ∙ nothing-lacks (get_or a (p / 64) 0) (get_or b (p / 64) 0) (p % 64) (h (p / 64) s.inside) (value-has a ha p (p / 64) (p % 64) s ∙ m)
      go p m false l = not_both (has (value a) p) m (has_beyond 256 (value a) p (value_lt a ha) (ltb-false p 256 l))

  -- the lowest that word i lacks
  pub word_missing : (i k p : ℕ) → i < 4 → Lowest (lacking (get_or a i 0) (get_or b i 0)) k → p ≡ i * 64 + k → Missing (value a) (value b) p
  word_missing i k p l low e =
      let s : Splits p i k = record { whole = omega arith; inside = l; small = low.small } in
      let m : (has (get_or a i 0) k && not (has (get_or b i 0) k)) ≡ true = sym (has-lacking (get_or a i 0) (get_or b i 0) k) ∙ low.member in
      record {
        wanted = sym (value-has a ha p i k s) ∙ and_l (has (get_or a i 0) k) (not (has (get_or b i 0) k)) m;
        lacking = sym (value-has b hb p i k s) ∙ not-not (has (get_or b i 0) k) (and_r (has (get_or a i 0) k) (not (has (get_or b i 0) k)) m);
      }
    where
      not-not : (x : Bool) → not x ≡ true → x ≡ false
      not-not true e = sym e
      not-not false e = refl

  -- ---- the lowest that a has and b lacks
  abbrev lacked : ℕ → Bool
  lacked q = has (value a) q && not (has (value b) q)

  -- by the word that it stands in
  lacked_at : (p i k : ℕ) → Splits p i k → lacked p ≡ has (lacking (get_or a i 0) (get_or b i 0)) k
  lacked_at p i k s =
      ap₂ (λ (x y : Bool). x && not y) (sym (value-has a ha p i k s)) (sym (value-has b hb p i k s)) ∙ sym (has-lacking (get_or a i 0) (get_or b i 0) k)

  -- where the words before word i lack nothing, nothing before it is lacking
  none_before : (i q : ℕ) → i ≤ 4 → q < i * 64 → ((j : ℕ) → j < i → lacking (get_or a j 0) (get_or b j 0) ≡ 0) → lacked q ≡ false
  none_before i q few l h =
      lacked_at q (q / 64) (q % 64) (record { whole = div-add-mod' q 64; inside = omega arith; small = mod-lt q (lit< tt) })
      ∙ ap (λ (x : ℕ). has x (q % 64)) (h (q / 64) (omega arith)) ∙ has_none (q % 64)

  -- and the lowest that word i lacks is the lowest of all
  pub word_least : (i k p : ℕ) → i < 4 → Lowest (lacking (get_or a i 0) (get_or b i 0)) k → p ≡ i * 64 + k
      → ((j : ℕ) → j < i → lacking (get_or a j 0) (get_or b j 0) ≡ 0) → some p ≡ if_below 256 (lowest lacked 0 256)
  word_least i k p l low e h =
      let small = low.small in
      sym
      ((below_some lacked 256 p).1
      (record {
        small = omega arith;
        passes = lacked_at p i k (record { whole = omega arith; inside = l; small = small }) ∙ low.member;
        least = λ q before. elim (dec_lt q (i * 64)) [ yes z ↦ none_before i q (omega arith) z h | no z ↦ within_word q before z (lacked q) refl ];
      }))
    where
      within_word : (q : ℕ) → q < p → (q < i * 64 → ⊥) → (x : Bool) → lacked q ≡ x → x ≡ false
      within_word q before z true m =
          let small = low.small in
          let s : Splits q i (q - i * 64) = record { whole = omega arith; inside = l; small = omega arith } in
          let f = lowest_least (lacking (get_or a i 0) (get_or b i 0)) k (q - i * 64) low (sym (lacked_at q i (q - i * 64) s) ∙ m) in
          absurd (omega arith)
      within_word q before z false m = refl

  -- where no word lacks anything, there is none
  pub words_least : ((j : ℕ) → j < 4 → lacking (get_or a j 0) (get_or b j 0) ≡ 0) → none ≡ if_below 256 (lowest lacked 0 256)
  words_least h = sym ((below_none lacked 256).1 (λ q l. none_before 4 q (omega arith) l h))
