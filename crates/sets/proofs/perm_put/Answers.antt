-- `sets::perm_put` meets its contract.
-- Assumes nothing.
use Rattle.sets.proofs.Unions.{row_put}
use Rattle.sets.proofs.perm_put.Goals as goal

pub returns : goal.returns
returns c = row_put c.args.rows.now _ c.args.p.0 _ c.row_put.ensures
