-- `grant_table_turned::bytes::part` meets its contract.
-- Assumes nothing.
use borrow.Author.Rules.{rules}
use Rattle.grant_table_turned.proofs.Parts.{part_is}
use Rattle.grant_table_turned.proofs.bytes.part.Goals as goal

pub returns : goal.returns
returns c = search (rules, part_is)
