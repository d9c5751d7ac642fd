-- `clauses_bytes::bytes::set_all` meets its contract.
-- Assumes nothing.
use Rattle.std.proofs.Common.{rules, arith}
use Rattle.clauses_bytes.proofs.RoomLaws.{copied}
use Rattle.clauses_bytes.proofs.bytes.set_all.Goals as goal

pub returns : goal.returns
returns c = copied _ _ _ _ _ (search rules) (search rules) (omega arith) c.copy_from_slice.ensures.after
