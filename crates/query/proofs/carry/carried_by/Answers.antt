-- `query::carry::carried_by` meets its contract.
-- Assumes nothing.
use mathlib.Core.Path.{◌∙◌}
use Rattle.sets.proofs.Unions.{union_at-values}
use Rattle.query.proofs.Meanings.{carried-meaning}
use Rattle.query.proofs.carry.carried_by.Goals as goal

pub returns : goal.returns
returns c m h =
    c.perm_union_at.ensures ∙ union_at-values c.args.rows.now c.args.set ∙ carried-meaning m c.args.set _ h
