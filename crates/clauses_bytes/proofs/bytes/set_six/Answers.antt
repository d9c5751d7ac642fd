-- `clauses_bytes::bytes::set_six` meets its contract: the digits before the last three, then those.
-- Assumes nothing.
use Rattle.std.proofs.Common.{rules}
use Rattle.clauses_bytes.proofs.RoomLaws.{set_thousands}
use Rattle.clauses_bytes.proofs.bytes.set_six.Goals as goal

pub returns : goal.returns
returns c = search (rules, set_thousands)
