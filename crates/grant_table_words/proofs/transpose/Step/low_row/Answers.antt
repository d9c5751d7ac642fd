-- `grant_table_words::transpose::Step::low_row` meets its contract.
-- Assumes nothing.
use Rattle.std.proofs.Common.{rules}
use Rattle.grant_table_words.proofs.Exchanges.{low-is}
use Rattle.grant_table_words.proofs.transpose.Step.low_row.Goals as goal

pub returns : goal.returns
returns c = search (rules, low-is)
