-- `tables_words::take::take_exclusion` meets its contract.
-- Assumes nothing.
use Rattle.std.proofs.Common.{[], refl, ap, ◌∙◌, arith}
use Rattle.std.proofs.lemmas.Result.{err_from_is_err_and}
use Rattle.reasons.proofs.Small.{number_of-numbered}
use Rattle.model.specs.Image.{sparing}
use Rattle.tables_words.specs.Step.{noting}
use Rattle.image.proofs.Turns.{room}
use Rattle.tables_words.proofs.take.take_exclusion.Goals as goal

pub returns-in_err-spared : goal.returns-in_err-spared
returns-in_err-spared c =
    let p = err_from_is_err_and c.from_residual.result c.from_residual.ensures.1 in
    rw (p.1, p.2) (
      λ rows. c.in_err-spared.ensures ∙ ap (sparing c.args.spare) (c.exclusion_fault.ensures rows),
      λ z. absurd (omega (arith, (number_of-numbered c.in_err-spared.field-0.0).some)),
    )

pub bounds-places-i : goal.bounds-places-i
bounds-places-i c =
    room c.args.h [] c.args.t c.args.x c.args.m c.args.spare 0
    (c.in_ok-spared.ensures ∙ ap (sparing c.args.spare) (c.exclusion_fault.ensures [])) refl

pub returns : goal.returns
unfolding noting
returns c = (λ rows. c.in_ok-spared.ensures ∙ ap (sparing c.args.spare) (c.exclusion_fault.ensures rows), λ z. refl)
