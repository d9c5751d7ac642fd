-- The words first, and then what they are.
-- Assumes nothing.
use mathlib.Core.Path.{sym, ap, ◌∙◌}
use Rattle.std.specs.Option.{is_some}
use Rattle.script_parse.specs.Reading.{call_in}
use Rattle.script_parse.proofs.FormLaws.{none_left, some_left, ask_of_none, ask_of_one, ask_of_two, ask_of_three, ask_of_five, ask_of_six, ask_of_more}
use Rattle.script_parse.proofs.parse.ask.Goals as goal

pub returns-in_err-user : goal.returns-in_err-user
unfolding call_in
returns-in_err-user c =
    rw (
      c.from_residual.ensures,
      c.in_err-user.ensures.steps.0,
    ) (sym ask_of_none)

pub returns-in_err-session : goal.returns-in_err-session
unfolding call_in
returns-in_err-session c =
    rw (
      c.from_residual-in_err-session.ensures,
      c.in_ok-user.ensures.steps,
      c.in_err-session.ensures.steps.0,
    ) (sym (ask_of_one _))

pub returns-in_err-lower : goal.returns-in_err-lower
unfolding call_in
returns-in_err-lower c =
    rw (
      c.from_residual-in_err-lower.ensures,
      c.in_ok-user.ensures.steps,
      c.in_ok-session.ensures.steps,
      c.in_err-lower.ensures.steps.0,
    ) (sym (ask_of_two _ _))

pub returns-in_err-upper : goal.returns-in_err-upper
unfolding call_in
returns-in_err-upper c =
    rw (
      c.from_residual-in_err-upper.ensures,
      c.in_ok-user.ensures.steps,
      c.in_ok-session.ensures.steps,
      c.in_ok-lower.ensures.steps,
      c.in_err-upper.ensures.steps.0,
    ) (sym (ask_of_three _ _ _))

pub returns-then-is_some : goal.returns-then-is_some
returns-then-is_some c =
    rw (
      c.in_ok-user.ensures.steps,
      c.in_ok-session.ensures.steps,
      c.in_ok-lower.ensures.steps,
      c.in_ok-upper.ensures.steps,
      none_left _ (c.if-is_some.ensures ∙ ap is_some c.end.ensures),
    ) c.short_ask.ensures

pub returns-in_err-first : goal.returns-in_err-first
returns-in_err-first c = absurd (some_left _ (c.if-is_some.ensures ∙ ap is_some c.end.ensures) c.in_err-first.ensures.steps.0)

pub returns-in_err-second : goal.returns-in_err-second
unfolding call_in
returns-in_err-second c =
    rw (
      c.from_residual-in_err-second.ensures,
      c.in_ok-user.ensures.steps,
      c.in_ok-session.ensures.steps,
      c.in_ok-lower.ensures.steps,
      c.in_ok-upper.ensures.steps,
      c.in_ok-first.ensures.steps,
      c.in_err-second.ensures.steps.0,
    ) (sym (ask_of_five _ _ _ _ _))

pub returns : goal.returns
returns c =
    rw (
      c.in_ok-user.ensures.steps,
      c.in_ok-session.ensures.steps,
      c.in_ok-lower.ensures.steps,
      c.in_ok-upper.ensures.steps,
      c.in_ok-first.ensures.steps,
      c.in_ok-second.ensures.steps,
      none_left _ (ap is_some c.in_ok-end.ensures),
    ) (sym (ask_of_six _ _ _ _ _ _ ∙ rw (
      ← c.in_ok-decimal.ensures,
      ← c.in_ok-decimal-2.ensures,
      ← c.in_ok-hexadecimal.ensures,
      ← c.in_ok-hexadecimal-2.ensures,
      ← c.in_ok-decimal-3.ensures,
      ← c.in_ok-decimal-4.ensures,
    )))

pub returns-in_err-decimal : goal.returns-in_err-decimal
returns-in_err-decimal c =
    rw (
      c.from_residual-in_err-decimal.ensures,
      c.in_ok-user.ensures.steps,
      c.in_ok-session.ensures.steps,
      c.in_ok-lower.ensures.steps,
      c.in_ok-upper.ensures.steps,
      c.in_ok-first.ensures.steps,
      c.in_ok-second.ensures.steps,
      none_left _ (ap is_some c.in_ok-end.ensures),
    ) (sym (ask_of_six _ _ _ _ _ _ ∙ rw (← c.in_err-decimal.ensures)))

pub returns-in_err-decimal-2 : goal.returns-in_err-decimal-2
returns-in_err-decimal-2 c =
    rw (
      c.from_residual-in_err-decimal-2.ensures,
      c.in_ok-user.ensures.steps,
      c.in_ok-session.ensures.steps,
      c.in_ok-lower.ensures.steps,
      c.in_ok-upper.ensures.steps,
      c.in_ok-first.ensures.steps,
      c.in_ok-second.ensures.steps,
      none_left _ (ap is_some c.in_ok-end.ensures),
    ) (sym (ask_of_six _ _ _ _ _ _ ∙ rw (
      ← c.in_ok-decimal.ensures,
      ← c.in_err-decimal-2.ensures,
    )))

pub returns-in_err-hexadecimal : goal.returns-in_err-hexadecimal
returns-in_err-hexadecimal c =
    rw (
      c.from_residual-in_err-hexadecimal.ensures,
      c.in_ok-user.ensures.steps,
      c.in_ok-session.ensures.steps,
      c.in_ok-lower.ensures.steps,
      c.in_ok-upper.ensures.steps,
      c.in_ok-first.ensures.steps,
      c.in_ok-second.ensures.steps,
      none_left _ (ap is_some c.in_ok-end.ensures),
    ) (sym (ask_of_six _ _ _ _ _ _ ∙ rw (
      ← c.in_ok-decimal.ensures,
      ← c.in_ok-decimal-2.ensures,
      ← c.in_err-hexadecimal.ensures,
    )))

pub returns-in_err-hexadecimal-2 : goal.returns-in_err-hexadecimal-2
returns-in_err-hexadecimal-2 c =
    rw (
      c.from_residual-in_err-hexadecimal-2.ensures,
      c.in_ok-user.ensures.steps,
      c.in_ok-session.ensures.steps,
      c.in_ok-lower.ensures.steps,
      c.in_ok-upper.ensures.steps,
      c.in_ok-first.ensures.steps,
      c.in_ok-second.ensures.steps,
      none_left _ (ap is_some c.in_ok-end.ensures),
    ) (sym (ask_of_six _ _ _ _ _ _ ∙ rw (
      ← c.in_ok-decimal.ensures,
      ← c.in_ok-decimal-2.ensures,
      ← c.in_ok-hexadecimal.ensures,
      ← c.in_err-hexadecimal-2.ensures,
    )))

pub returns-in_err-decimal-3 : goal.returns-in_err-decimal-3
returns-in_err-decimal-3 c =
    rw (
      c.from_residual-in_err-decimal-3.ensures,
      c.in_ok-user.ensures.steps,
      c.in_ok-session.ensures.steps,
      c.in_ok-lower.ensures.steps,
      c.in_ok-upper.ensures.steps,
      c.in_ok-first.ensures.steps,
      c.in_ok-second.ensures.steps,
      none_left _ (ap is_some c.in_ok-end.ensures),
    ) (sym (ask_of_six _ _ _ _ _ _ ∙ rw (
      ← c.in_ok-decimal.ensures,
      ← c.in_ok-decimal-2.ensures,
      ← c.in_ok-hexadecimal.ensures,
      ← c.in_ok-hexadecimal-2.ensures,
      ← c.in_err-decimal-3.ensures,
    )))

pub returns-in_err-decimal-4 : goal.returns-in_err-decimal-4
returns-in_err-decimal-4 c =
    rw (
      c.from_residual-in_err-decimal-4.ensures,
      c.in_ok-user.ensures.steps,
      c.in_ok-session.ensures.steps,
      c.in_ok-lower.ensures.steps,
      c.in_ok-upper.ensures.steps,
      c.in_ok-first.ensures.steps,
      c.in_ok-second.ensures.steps,
      none_left _ (ap is_some c.in_ok-end.ensures),
    ) (sym (ask_of_six _ _ _ _ _ _ ∙ rw (
      ← c.in_ok-decimal.ensures,
      ← c.in_ok-decimal-2.ensures,
      ← c.in_ok-hexadecimal.ensures,
      ← c.in_ok-hexadecimal-2.ensures,
      ← c.in_ok-decimal-3.ensures,
      ← c.in_err-decimal-4.ensures,
    )))

pub returns-in_err-end : goal.returns-in_err-end
unfolding call_in
returns-in_err-end c =
    rw (
      c.from_residual-in_err-end.ensures,
      c.in_ok-user.ensures.steps,
      c.in_ok-session.ensures.steps,
      c.in_ok-lower.ensures.steps,
      c.in_ok-upper.ensures.steps,
      c.in_ok-first.ensures.steps,
      c.in_ok-second.ensures.steps,
    ) (sym (ask_of_more _ _ _ _ _ _ _ (ap is_some c.in_err-end.ensures)))
