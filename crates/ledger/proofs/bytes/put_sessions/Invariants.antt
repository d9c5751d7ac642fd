-- `ledger::bytes::put_sessions` meets its contract. The loop's invariant: the first k sessions are in place.
-- Assumes nothing.
use mathlib.Core.Path.{◌≡◌}
use lib.ListN.{take}
use Rattle.model.specs.Line.{write_sessions}
use Rattle.octets.specs.Splice.{splice}
use Rattle.ledger.proofs.bytes.put_sessions.Given as goal

abbrev pub invariant-loop-k : goal.invariant-loop-k
invariant-loop-k l = l.s ≡ splice l.initial.s l.at (write_sessions (take l.k l.fn.sessions))
