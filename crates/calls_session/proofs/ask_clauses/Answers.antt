-- `calls_session::ask_clauses` meets its contract.
-- Assumes nothing.
use mathlib.Core.Path.{ap, ◌∙◌}
use borrow.Author.Rules.{rules}
use Rattle.reasons.specs.Numbers.{refusal_of}
use Rattle.calls_image.proofs.Images.{held_range, held_roles, held_permissions}
use Rattle.tables.proofs.Fills.{blank_fresh}
use Rattle.calls_session.proofs.Steps.{tells-refused, tells_by}
use Rattle.calls_session.proofs.ask_clauses.Goals as goal

pub read-outcome-requires : goal.read-outcome-requires
read-outcome-requires c = search (rules, blank_fresh)

pub returns-in_default : goal.returns-in_default
returns-in_default c = tells-refused _ _ _ _ c.in_default.ensures.refused (c.refused.ensures ∙ ap refusal_of c.in_default.is) _

pub ask_clauses-requires : goal.ask_clauses-requires
ask_clauses-requires c =
    let r = c.in-Ok.ensures.accepted in
    (held_roles _ r.1 r.0, held_permissions _ r.1 r.0)

pub returns : goal.returns
returns c =
    let r = c.in-Ok.ensures.accepted in
    tells_by _ _ _ _ r.0 (rw c.returned.ensures (c.ask_clauses.ensures _ _ _ (held_range _ r.0) r.1 c.bounds_of-bounds.ensures))
