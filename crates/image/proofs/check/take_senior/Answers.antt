-- `image::check::take_senior` meets its contract.
-- Assumes nothing.
use Rattle.std.proofs.Common.{ap, ◌∙◌, arith}
use Rattle.std.proofs.lemmas.Result.{err_from_is_err_and}
use Rattle.reasons.proofs.Small.{number_of-numbered}
use Rattle.model.specs.Image.{sparing}
use Rattle.model.specs.Policy.{ordering}
use Rattle.image.proofs.check.take_senior.Goals as goal

pub returns-in_err-spared : goal.returns-in_err-spared
returns-in_err-spared c =
    let p = err_from_is_err_and c.from_residual.result c.from_residual.ensures.1 in
    rw (p.1, p.2) (
      λ rows t. c.in_err-spared.ensures ∙ ap (sparing c.args.spare) (c.senior_fault.ensures rows t),
      λ z. absurd (omega (arith, (number_of-numbered c.in_err-spared.field-0.0).some)),
    )

pub returns : goal.returns
unfolding ordering
returns c = (λ rows t. c.in_ok-spared.ensures ∙ ap (sparing c.args.spare) (c.senior_fault.ensures rows t), λ z. rw c.with-row.ensures)
