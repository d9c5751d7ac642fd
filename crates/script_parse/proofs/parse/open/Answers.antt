-- The words first, and then the number.
-- Assumes nothing.
use mathlib.Core.Path.{sym, ap, ◌∙◌}
use Rattle.std.specs.Option.{is_some}
use Rattle.script_parse.specs.Reading.{call_in}
use Rattle.script_parse.proofs.FormLaws.{none_left, open_of_none, open_of_one, open_of_more}
use Rattle.script_parse.proofs.parse.open.Goals as goal

pub returns-in_err-user : goal.returns-in_err-user
unfolding call_in
returns-in_err-user c = rw (c.from_residual.ensures, c.in_err-user.ensures.steps.0) (sym open_of_none)

pub returns-in_err-end : goal.returns-in_err-end
unfolding call_in
returns-in_err-end c =
    rw (c.from_residual-in_err-end.ensures, c.in_ok-user.ensures.steps) (sym (open_of_more _ _ (ap is_some c.in_err-end.ensures)))

pub returns-in_err-decimal : goal.returns-in_err-decimal
returns-in_err-decimal c =
    rw (c.from_residual-in_err-decimal.ensures, c.in_ok-user.ensures.steps, none_left _ (ap is_some c.in_ok-end.ensures))
    (sym (open_of_one _ ∙ rw (← c.in_err-decimal.ensures)))

pub returns : goal.returns
returns c =
    rw (c.in_ok-user.ensures.steps, none_left _ (ap is_some c.in_ok-end.ensures)) (sym (open_of_one _ ∙ rw (← c.in_ok-decimal.ensures)))
