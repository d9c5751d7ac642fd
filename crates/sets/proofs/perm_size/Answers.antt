-- `sets::perm_size` meets its contract.
-- Assumes nothing.
use Rattle.std.proofs.Common.{rules}
use Rattle.sets.proofs.Machine.{value-count}
use Rattle.sets.proofs.perm_size.Goals as goal

pub returns : goal.returns
returns c = search (rules, value-count)
