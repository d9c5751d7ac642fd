-- The words first, and then the numbers.
-- Assumes nothing.
use mathlib.Core.Path.{sym, ap, ◌∙◌}
use Rattle.std.specs.Option.{is_some}
use Rattle.script_parse.specs.Reading.{two_numbers, first_number}
use Rattle.script_parse.proofs.FormLaws.{none_left, two_of_one, two_of_two, two_of_more}
use Rattle.script_parse.proofs.parse.user_and_session.Goals as goal

pub returns-in_err-user : goal.returns-in_err-user
unfolding two_numbers first_number
returns-in_err-user c = rw (c.from_residual.ensures, c.in_err-user.ensures.steps.0)

pub returns-in_err-session : goal.returns-in_err-session
returns-in_err-session c =
    rw (c.from_residual-in_err-session.ensures, c.in_ok-user.ensures.steps, c.in_err-session.ensures.steps.0) (sym (two_of_one _))

pub returns-in_err-end : goal.returns-in_err-end
returns-in_err-end c =
    rw (c.from_residual-in_err-end.ensures, c.in_ok-user.ensures.steps, c.in_ok-session.ensures.steps)
    (sym (two_of_more _ _ _ (ap is_some c.in_err-end.ensures)))

pub returns-in_err-decimal : goal.returns-in_err-decimal
returns-in_err-decimal c =
    rw (
      c.from_residual-in_err-decimal.ensures,
      c.in_ok-user.ensures.steps,
      c.in_ok-session.ensures.steps,
      none_left _ (ap is_some c.in_ok-end.ensures),
    ) (sym (two_of_two _ _ ∙ rw (← c.in_err-decimal.ensures)))

pub returns-in_err-decimal-2 : goal.returns-in_err-decimal-2
returns-in_err-decimal-2 c =
    rw (
      c.from_residual-in_err-decimal-2.ensures,
      c.in_ok-user.ensures.steps,
      c.in_ok-session.ensures.steps,
      none_left _ (ap is_some c.in_ok-end.ensures),
    ) (sym (two_of_two _ _ ∙ rw (← c.in_ok-decimal.ensures, ← c.in_err-decimal-2.ensures)))

pub returns : goal.returns
returns c =
    rw (c.in_ok-user.ensures.steps, c.in_ok-session.ensures.steps, none_left _ (ap is_some c.in_ok-end.ensures))
    (sym (two_of_two _ _ ∙ rw (← c.in_ok-decimal.ensures, ← c.in_ok-decimal-2.ensures)))
