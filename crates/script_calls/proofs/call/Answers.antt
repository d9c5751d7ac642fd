-- The call of each form.
-- Assumes nothing.
use borrow.Author.Rules.{rules}
use mathlib.Core.Path.{ap, ◌∙◌}
use Rattle.std.proofs.Common.{Some}
use Rattle.script_calls.proofs.CallLaws.{answers_open, answers_close, answers_show, answers_short_ask, answers_ask, answers_unreadable}
use Rattle.script_calls.proofs.call.Goals as goal

pub returns-in_default : goal.returns-in_default
returns-in_default c = answers_unreadable _ _ _ _ c.in_default.is

pub returns-in-Open : goal.returns-in-Open
returns-in-Open c = answers_open _ _ _ _ _ _ _ (c.in-Some.is ∙ ap Some c.in-Open.is) c.nutrameza_open.ensures

pub returns-in-Close : goal.returns-in-Close
returns-in-Close c = answers_close _ _ _ _ _ _ _ _ (c.in-Some.is ∙ ap Some c.in-Close.is) c.nutrameza_close.ensures

pub returns-in-Show : goal.returns-in-Show
returns-in-Show c =
    answers_show _ _ _ _ (search rules) _ _ _ _ (c.in-Some.is ∙ ap Some c.in-Show.is) c.nutrameza_show.ensures

pub returns-in-ShortAsk : goal.returns-in-ShortAsk
returns-in-ShortAsk c =
    answers_short_ask _ _ _ _ (search rules) _ _ _ _ _ _ _ (c.in-Some.is ∙ ap Some c.in-ShortAsk.is) c.nutrameza_short_ask.ensures

pub returns-in-Ask : goal.returns-in-Ask
returns-in-Ask c =
    answers_ask _ _ _ _ (search rules) _ _ _ _ _ _ _ _ _ (c.in-Some.is ∙ ap Some c.in-Ask.is) c.nutrameza_ask.ensures
