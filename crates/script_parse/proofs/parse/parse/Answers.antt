-- A line by its first word.
-- Assumes nothing.
use borrow.Author.Rules.{rules}
use mathlib.Core.Path.{◌≡◌, sym}
use Rattle.script_parse.proofs.FormLaws.{no_keyword, no_words}
use mathlib.Core.List.{[], ◌∷◌}
use Rattle.model_script.specs.Script.{parse, ascii}
use Rattle.script_parse.specs.Reading.{call_in}
use Rattle.script_parse.proofs.parse.parse.Goals as goal

pub returns-in_err-keyword : goal.returns-in_err-keyword
unfolding parse call_in
returns-in_err-keyword c =
    rw (c.from_residual.ensures, ← c.of-words.ensures, c.in_err-keyword.ensures.steps.0) (sym no_words)

pub returns-then-eq : goal.returns-then-eq
unfolding parse ascii
returns-then-eq c =
    let k : c.in_ok-keyword.keyword.now ≡ 111 ∷ 112 ∷ 101 ∷ 110 ∷ [] = search rules in
    rw (← c.of-words.ensures, c.in_ok-keyword.ensures.steps, k) c.open.ensures

pub returns-then-eq-2 : goal.returns-then-eq-2
unfolding parse ascii
returns-then-eq-2 c =
    let k : c.in_ok-keyword.keyword.now ≡ 99 ∷ 108 ∷ 111 ∷ 115 ∷ 101 ∷ [] = search rules in
    rw (← c.of-words.ensures, c.in_ok-keyword.ensures.steps, k) c.close.ensures

pub returns-then-eq-3 : goal.returns-then-eq-3
unfolding parse ascii
returns-then-eq-3 c =
    let k : c.in_ok-keyword.keyword.now ≡ 115 ∷ 104 ∷ 111 ∷ 119 ∷ [] = search rules in
    rw (← c.of-words.ensures, c.in_ok-keyword.ensures.steps, k) c.show.ensures

pub returns-then-eq-4 : goal.returns-then-eq-4
unfolding parse ascii
returns-then-eq-4 c =
    let k : c.in_ok-keyword.keyword.now ≡ 97 ∷ 115 ∷ 107 ∷ [] = search rules in
    rw (← c.of-words.ensures, c.in_ok-keyword.ensures.steps, k) c.ask.ensures

pub returns-else-eq-4 : goal.returns-else-eq-4
unfolding parse ascii call_in
returns-else-eq-4 c =
    rw (← c.of-words.ensures, c.in_ok-keyword.ensures.steps)
    (sym (no_keyword _ _ (search rules) (search rules) (search rules) (search rules)))
