-- `image::ending::end_fault` meets its contract.
-- Assumes nothing.
use Rattle.std.proofs.Common.{refl, ◌∙◌, arith}
use Rattle.std.proofs.lemmas.Result.{err_from_is_err_and}
use Rattle.reasons.proofs.Small.{number_of-numbered}
use Rattle.image.proofs.Turns.{kind_right, kind_wrong}
use Rattle.image.proofs.Last.{end_of, end_wrong, end_right}
use Rattle.image.proofs.ending.end_fault.Goals as goal

pub returns-in_err-kind_fault : goal.returns-in_err-kind_fault
returns-in_err-kind_fault c =
    let p = err_from_is_err_and c.from_residual.result c.from_residual.ensures.1 in
    let some = (number_of-numbered c.in_err-kind_fault.field-0.0).some in
    let k = kind_wrong _ _ c.in_err-kind_fault.ensures some in
    rw (p.1, p.2) (λ h rows t e. k.1 ∙ end_wrong h rows t _ _ e k.0, λ z. absurd (omega (arith, some)))

pub returns : goal.returns
returns c =
    let k = kind_right _ _ c.in_ok-kind_fault.ensures refl in
    (λ h rows t e. end_right h rows t _ _ e _ k c.spared.ensures, λ z. end_of _ _ k)
