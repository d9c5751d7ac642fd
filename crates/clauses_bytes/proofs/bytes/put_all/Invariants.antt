-- `clauses_bytes::bytes::put_all` meets its contract: the bytes so far are put.
-- Assumes nothing.
use Rattle.std.proofs.Common.{take}
use Rattle.clauses_bytes.specs.Putting.{Puts}
use Rattle.clauses_bytes.proofs.bytes.put_all.Given as goal

abbrev pub invariant-loop-b : goal.invariant-loop-b
invariant-loop-b l = Puts l.initial.out l.at (take l.b-index l.bytes) l.out l.next
