-- `sets::perm_within` meets its contract.
-- Assumes nothing.
use Rattle.std.proofs.Common.{rules}
use Rattle.sets.proofs.Machine.{value-within}
use Rattle.sets.proofs.perm_within.Goals as goal

pub returns : goal.returns
returns c = search (rules, value-within)
