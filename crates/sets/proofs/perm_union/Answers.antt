-- `sets::perm_union` meets its contract.
-- Assumes nothing.
use Rattle.std.proofs.Common.{rules}
use Rattle.sets.proofs.Machine.{value-union}
use Rattle.sets.proofs.perm_union.Goals as goal

pub returns : goal.returns
returns c = search (rules, value-union)
