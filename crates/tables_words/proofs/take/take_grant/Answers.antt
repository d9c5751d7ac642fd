-- `tables_words::take::take_grant` meets its contract.
-- Assumes nothing.
use Rattle.std.proofs.Common.{ap, ◌∙◌, arith}
use Rattle.std.proofs.lemmas.Result.{err_from_is_err_and}
use Rattle.reasons.proofs.Small.{number_of-numbered}
use Rattle.model.specs.Image.{sparing}
use Rattle.model.specs.Policy.{granting}
use Rattle.tables_words.proofs.take.take_grant.Goals as goal

pub returns-in_err-spared : goal.returns-in_err-spared
returns-in_err-spared c =
    let p = err_from_is_err_and c.from_residual.result c.from_residual.ensures.1 in
    rw (p.1, p.2) (
      λ rows t. c.in_err-spared.ensures ∙ ap (sparing c.args.spare) (c.grant_fault.ensures rows t),
      λ z. absurd (omega (arith, (number_of-numbered c.in_err-spared.field-0.0).some)),
    )

pub returns : goal.returns
unfolding granting
returns c = (λ rows t. c.in_ok-spared.ensures ∙ ap (sparing c.args.spare) (c.grant_fault.ensures rows t), λ z. c.perm_put.ensures)
