-- `sets::without_bit` meets its contract.
-- Assumes nothing.
use Rattle.std.proofs.Common.{rules}
use Rattle.sets.proofs.Machine.{word_without}
use Rattle.sets.proofs.without_bit.Goals as goal

pub returns : goal.returns
returns c = search (rules, word_without)
