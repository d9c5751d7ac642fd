-- `sets::has_bit` meets its contract.
-- Assumes nothing.
use Rattle.std.proofs.Common.{rules}
use Rattle.model.specs.Sets.{has}
use Rattle.sets.proofs.has_bit.Goals as goal

pub returns : goal.returns
unfolding has
returns c = search rules
