-- `grant_table_words::transpose::Step::high_row` meets its contract.
-- Assumes nothing.
use Rattle.std.proofs.Common.{rules}
use Rattle.grant_table_words.proofs.Exchanges.{high_is}
use Rattle.grant_table_words.proofs.transpose.Step.high_row.Goals as goal

pub returns : goal.returns
returns c = search (rules, high_is)
