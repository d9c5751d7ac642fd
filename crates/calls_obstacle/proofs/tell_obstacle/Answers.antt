-- `calls_obstacle::tell_obstacle` meets its contract.
-- Assumes nothing.
use mathlib.Core.Path.{ap, ◌∙◌}
use borrow.Author.Rules.{rules}
use Rattle.reasons.specs.Numbers.{refusal_of}
use Rattle.tables.proofs.Fills.{blank_fresh}
use Rattle.calls_session.proofs.Steps.{shows-refused, shows_by}
use Rattle.calls_obstacle.proofs.tell_obstacle.Goals as goal

pub read-outcome-requires : goal.read-outcome-requires
read-outcome-requires c = search (rules, blank_fresh)

pub returns-in_default : goal.returns-in_default
returns-in_default c = shows-refused _ _ _ _ c.in_default.ensures.refused (c.refused.ensures ∙ ap refusal_of c.in_default.is) _

pub returns : goal.returns
returns c =
    let r = c.in-Ok.ensures.accepted in
    shows_by _ _ _ _ r.0 (rw c.returned.ensures (c.ask_obstacle.ensures _ _ _ r.1 c.bounds_of-bounds.ensures))
