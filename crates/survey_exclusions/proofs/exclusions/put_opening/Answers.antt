-- The image is judged; its exclusions or its refusal are written.
-- Assumes nothing.
use mathlib.Core.Path.{sym, ap, ◌∙◌}
use Prim.Native.Nat.{ℕ}
use native.Mathlib.Omega.{arith}
use Rattle.model.specs.declared.Checked.TheVariants.{Refused}
use Rattle.model_laws.proofs.Judgements.{accepted_in_range}
use Rattle.script_text.proofs.TextLaws.{writes_as}
use Rattle.survey_exclusions.proofs.ExclusionLaws.{opens_accepted, opens-refused}
use Rattle.survey_exclusions.proofs.Fit.{figures_fit}
use Rattle.survey_exclusions.proofs.exclusions.put_opening.Goals as goal

pub put_exclusions-requires : goal.put_exclusions-requires
put_exclusions-requires c =
    let accepted = sym c.in-Ok.ensures in
    (c.requires, (accepted_in_range _ _ accepted).few_exclusions, figures_fit _ _ accepted)

pub returns-in-Ok : goal.returns-in-Ok
returns-in-Ok c =
    let opens = opens_accepted _ _ (sym c.in-Ok.ensures) in
    (writes_as opens.0 c.put_exclusions.ensures.0, c.put_exclusions.ensures.1, opens.1)

pub returns-in-Err : goal.returns-in-Err
returns-in-Err c =
    let opens = opens-refused _ _ _ (sym c.in-Err.ensures ∙ ap (λ (n : ℕ). Refused n c.in-Err.refusal.extra) (sym c.from.ensures)) in
    (writes_as opens.0 c.put_two.ensures.0, omega (arith, c.put_two.ensures.1), opens.1)
