-- The first word ends at the first blank, or with the line.
-- Assumes nothing.
use borrow.Author.Rules.{rules}
use mathlib.Core.Path.{refl, ap, ◌∙◌}
use native.Mathlib.Omega.{arith}
use Rattle.std.proofs.Common.{tests}
use lib.Dec.{eqb}
use Rattle.std.proofs.lemmas.Iterator.{YieldsList-from_slice}
use Rattle.std.proofs.lemmas.Iterator.Search.{position_from_yields_List}
use Rattle.script_lines.specs.Cutting.{words_in}
use Rattle.script_lines.proofs.WordLaws.{word_ends, last_word}
use Rattle.script_lines.proofs.lines.WordsIterator.next.Goals as goal

pub returns-in_err-rest-clause-steps : goal.returns-in_err-rest-clause-steps
unfolding words_in
returns-in_err-rest-clause-steps c = rw (c.from_residual.ensures, c.in_err-rest.was) (refl, refl)

pub returns-in-Some : goal.returns-in-Some
unfolding words_in
returns-in-Some c =
    let xs = c.in_ok-rest.rest.now in
    let e = position_from_yields_List (λ x. eqb x 32) _ _ c.position.result c.position.ensures.ran (YieldsList-from_slice xs cc)
    (λ x b q k. search (rules, tests)) in
    let cut = word_ends xs _ e c.in-Some.end c.in-Some.is in
    record {
      steps = ap words_in c.in_ok-rest.was ∙ cut;
      goes = record { on = λ _. (tt, tt, rw (c.in_ok-rest.was, cut) (omega arith)); keeps = tt; rests = λ _. tt };
    }

pub returns-in-None : goal.returns-in-None
unfolding words_in
returns-in-None c =
    let xs = c.in_ok-rest.rest.now in
    let e = position_from_yields_List (λ x. eqb x 32) _ _ c.position.result c.position.ensures.ran (YieldsList-from_slice xs cc)
    (λ x b q k. search (rules, tests)) in
    let cut = last_word xs _ e c.in-None.is in
    record {
      steps = ap words_in c.in_ok-rest.was ∙ cut;
      goes = record { on = λ _. (tt, tt, rw (c.in_ok-rest.was, cut) (omega arith)); keeps = tt; rests = λ _. tt };
    }
