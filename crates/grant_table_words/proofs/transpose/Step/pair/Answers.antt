-- `grant_table_words::transpose::Step::pair` meets its contract.
-- Assumes nothing.
use Rattle.std.proofs.Common.{rules}
use Rattle.grant_table_words.proofs.Blocks.{pair_is}
use Rattle.grant_table_words.proofs.transpose.Step.pair.Goals as goal

pub returns : goal.returns
returns c = search (rules, pair_is)
