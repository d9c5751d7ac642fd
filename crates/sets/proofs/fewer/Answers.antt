-- `sets::fewer` meets its contract.
-- Assumes nothing.
use Rattle.std.proofs.Common.{rules}
use Rattle.sets.proofs.Machine.{word_fewer}
use Rattle.sets.proofs.fewer.Goals as goal

pub returns : goal.returns
returns c = search (rules, word_fewer)
