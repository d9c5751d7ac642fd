-- `grant_table_turned::bytes::put_column` meets its contract.
-- Assumes nothing.
use Rattle.std.proofs.Common.{rules}
use Rattle.grant_table_turned.proofs.Words.{column_bytes}
use Rattle.grant_table_turned.proofs.bytes.put_column.Goals as goal

pub returns : goal.returns
returns c = search (rules, column_bytes)
