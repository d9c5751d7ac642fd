-- `sets::perm_has` meets its contract.
-- Assumes nothing.
use Rattle.std.proofs.Common.{rules}
use Rattle.model.specs.Sets.{has}
use Rattle.sets.proofs.Machine.{value-has}
use Rattle.sets.proofs.perm_has.Goals as goal

pub returns : goal.returns
unfolding has
returns c = search (rules, value-has)
