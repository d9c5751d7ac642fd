-- `tables_rows::carried::carried_by` meets its contract.
-- Assumes nothing.
use mathlib.Core.Path.{sym, ap, ◌∙◌}
use Rattle.model.specs.Sets.{union_at}
use Rattle.sets.specs.Words.{values}
use Rattle.sets.proofs.Unions.{union_at_unions}
use Rattle.tables_rows.specs.Carried.{carried_of}
use Rattle.tables_rows.proofs.carried.carried_by.Goals as goal

pub returns : goal.returns
unfolding carried_of
returns c =
    c.perm_union_at.ensures ∙ ap (union_at (values c.args.grants.now.granted.now)) c.reached_by-reached.ensures ∙ sym (union_at_unions _ _ _)
