-- `calls_image::fill_table` meets its contract.
-- Assumes nothing.
use mathlib.Core.Path.{ap, ◌∙◌}
use borrow.Author.Rules.{rules}
use Rattle.reasons.specs.Numbers.{refusal_of}
use Rattle.calls_image.proofs.Images.{held_range, held_roles_are, held_roles}
use Rattle.tables.proofs.Fills.{blank_fresh}
use Rattle.calls_image.proofs.TableCalls.{table_refused, table_by_lem}
use Rattle.calls_image.proofs.fill_table.Goals as goal

pub read-outcome-requires : goal.read-outcome-requires
read-outcome-requires c = search (rules, blank_fresh)

pub returns-in_default : goal.returns-in_default
returns-in_default c = table_refused _ c.in_default.ensures.refused (c.refused.ensures ∙ ap refusal_of c.in_default.is)

pub grant_table-requires : goal.grant_table-requires
grant_table-requires c =
    let r = c.in-Ok.ensures.accepted in
    held_roles _ r.1 r.0

pub returns : goal.returns
returns c =
    let r = c.in-Ok.ensures.accepted in
    table_by_lem _ r.0
    (rw c.refused-2.ensures (c.grant_table.ensures _ (held_range _ r.0) (rw c.grants.ensures.granted r.1.granted_is) (rw c.grants.ensures.below r.1.below_is)
    (held_roles_are _ r.1)))
