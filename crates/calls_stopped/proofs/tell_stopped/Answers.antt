-- `calls_stopped::tell_stopped` meets its contract.
-- Assumes nothing.
use mathlib.Core.Path.{ap, ◌∙◌}
use borrow.Author.Rules.{rules}
use Rattle.reasons.specs.Numbers.{refusal_of}
use Rattle.calls_image.proofs.Images.{held_known}
use Rattle.tables.proofs.Fills.{blank_fresh}
use Rattle.calls_stopped.proofs.Telling.{stopped_refused, stopped_by_lem}
use Rattle.calls_stopped.proofs.tell_stopped.Goals as goal

pub read-outcome-requires : goal.read-outcome-requires
read-outcome-requires c = search (rules, blank_fresh)

pub returns-in_default : goal.returns-in_default
returns-in_default c = stopped_refused _ _ _ c.in_default.ensures.refused (c.refused.ensures ∙ ap refusal_of c.in_default.is)

pub returns : goal.returns
returns c =
    let r = c.in-Ok.ensures.accepted in
    stopped_by_lem _ _ _ r.0 (rw (← c.returned.ensures) at (c.tell.ensures _ (held_known _ r.1)))
