-- The first word of a line, and the words behind it.
-- Assumes nothing.
use mathlib.Core.Path.{◌≡◌, refl, sym, ◌∙◌}
use mathlib.Core.Bool.{Bool, true, false, not, cond}
use mathlib.Core.List.{List, [], ◌∷◌}
use Prim.Native.Nat.{ℕ, suc, ◌+◌, ◌-◌}
use native.Mathlib.Omega.{arith}
use lib.Dec.{eqb, ltb}
use lib.ListN.{length, take, drop, length-drop}
use lib.Seq.{take_all}
use borrow.Table.Steps.{cases}
use borrow.Author.Tests.{lt-ltb, le-ltb, ltb-true, ltb-false}
use Rattle.std.proofs.Common.{Option, Some, None}
use Rattle.std.specs.List.{position_or_len}
use Rattle.std.proofs.lemmas.Option.{cond_some, none-some}
use Rattle.model_script.specs.Script.{begun, words}
use Rattle.script_lines.specs.Cutting.{nothing_left}

abbrev is_blank : ℕ → Bool
is_blank c = eqb c 32

-- where the first blank stands, or how long the line is
abbrev blank : List ℕ → ℕ
blank xs = position_or_len is_blank xs

begun-first : (c : ℕ) (w : List ℕ) (ws vs : List (List ℕ)) → vs ≡ w ∷ ws → begun c vs ≡ (c ∷ w) ∷ ws
unfolding begun
begun-first c w ws vs e = rw e

ltb_more : (a b : ℕ) → ltb (suc a) (suc b) ≡ ltb a b
ltb_more a b =
    cases (ltb a b) (λ t. lt-ltb (suc a) (suc b) (omega (arith, ltb-true a b t)) ∙ sym t)
    (λ f. le-ltb (suc a) (suc b) (omega (arith, ltb-false a b f)) ∙ sym f)

-- the words of a line by its first blank
first_word : (xs : List ℕ) → words xs ≡ take (blank xs) xs ∷ cond (ltb (blank xs) (length xs)) (words (drop (blank xs + 1) xs)) []
unfolding words
first_word [] = refl
first_word (c ∷ cs) = go (is_blank c) (first_word cs)
  where
    go : (b : Bool) → words cs ≡ take (blank cs) cs ∷ cond (ltb (blank cs) (length cs)) (words (drop (blank cs + 1) cs)) []
        → elim b [ true ↦ [] ∷ words cs | false ↦ begun c (words cs) ]
        ≡ take (cond (not b) (1 + blank cs) 0) (c ∷ cs)
        ∷ cond (ltb (cond (not b) (1 + blank cs) 0) (suc (length cs))) (words (drop (cond (not b) (1 + blank cs) 0 + 1) (c ∷ cs))) []
    go true h = rw (lt-ltb 0 (suc (length cs)) (omega arith))
    go false h =
        let e : 1 + blank cs ≡ suc (blank cs) = omega arith in
        let f : suc (blank cs) + 1 ≡ suc (blank cs + 1) = omega arith in
        begun-first c _ _ (words cs) h ∙ rw (e, f, ltb_more (blank cs) (length cs))

-- a line has a word, if only an empty one
pub some_word : (xs : List ℕ) → None ≡ nothing_left (words xs)
unfolding nothing_left
some_word xs = rw (first_word xs)

module _ (xs : List ℕ) (r : Option ℕ) (e : r ≡ cond (ltb (blank xs) (length xs)) (Some (blank xs)) None) where
  -- the line has a blank at k, and it ends the first word
  pub word_ends : (k : ℕ) → r ≡ Some k → words xs ≡ take k xs ∷ words (take (length xs - (k + 1)) (drop (k + 1) xs))
  word_ends k h =
      let p = cond_some (ltb (blank xs) (length xs)) (blank xs) k (sym e ∙ h) in
      let a = take_all (length xs - (k + 1)) (drop (k + 1) xs) (omega (arith, length-drop (k + 1) xs)) in
      first_word xs ∙ rw (p.0, p.1, a)

  -- the line has no blank, and is its only word
  pub last_word : r ≡ None → words xs ≡ xs ∷ []
  last_word h =
      cases (ltb (blank xs) (length xs)) (λ t. absurd (none-some (blank xs) (sym h ∙ e ∙ rw t)))
      (λ f. first_word xs ∙ rw (f, take_all (blank xs) xs (ltb-false _ _ f)))
