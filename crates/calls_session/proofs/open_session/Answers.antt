-- `calls_session::open_session` meets its contract.
-- Assumes nothing.
use mathlib.Core.Path.{ap, ◌∙◌}
use borrow.Author.Rules.{rules}
use Rattle.reasons.specs.Numbers.{refusal_of}
use Rattle.calls_image.proofs.Images.{held_known}
use Rattle.tables.proofs.Fills.{blank_fresh}
use Rattle.calls_session.proofs.Steps.{gives-refused, gives_by}
use Rattle.calls_session.proofs.open_session.Goals as goal

pub read-outcome-requires : goal.read-outcome-requires
read-outcome-requires c = search (rules, blank_fresh)

pub returns-in_default : goal.returns-in_default
returns-in_default c = gives-refused _ _ _ _ c.in_default.ensures.refused (c.refused.ensures ∙ ap refusal_of c.in_default.is)

pub returns : goal.returns
returns c =
    let r = c.in-Ok.ensures.accepted in
    gives_by _ _ _ _ r.0 (rw c.returned.ensures (c.open_session.ensures _ (held_known _ r.1)))
