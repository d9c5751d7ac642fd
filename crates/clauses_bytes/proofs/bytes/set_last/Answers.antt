-- `clauses_bytes::bytes::set_last` meets its contract.
-- Assumes nothing.
use Rattle.std.proofs.Common.{rules}
use Rattle.clauses_bytes.proofs.RoomLaws.{last_set}
use Rattle.clauses_bytes.proofs.bytes.set_last.Goals as goal

pub returns : goal.returns
returns c = search (rules, last_set)
