-- `sets::within` meets its contract.
-- Assumes nothing.
use Rattle.std.proofs.Common.{rules}
use Rattle.model.specs.Sets.{within}
use Rattle.sets.proofs.within.Goals as goal

pub returns : goal.returns
unfolding within
returns c = search rules
