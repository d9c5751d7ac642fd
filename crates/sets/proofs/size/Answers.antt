-- `sets::size` meets its contract.
-- Assumes nothing.
use Rattle.std.proofs.Common.{rules}
use Rattle.sets.proofs.Machine.{word_count}
use Rattle.sets.proofs.size.Goals as goal

pub returns : goal.returns
returns c = search (rules, word_count)
