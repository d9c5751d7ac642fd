-- `ledger::bytes::sessions_at` meets its contract. The loop's invariant: the first k sessions are read.
-- Assumes nothing.
use mathlib.Core.Path.{◌≡◌}
use lib.ListN.{length, take, drop}
use Rattle.model.specs.Line.{SESSIONS, read_sessions}
use Rattle.ledger.proofs.bytes.sessions_at.Given as goal

abbrev pub invariant-loop-k : goal.invariant-loop-k
invariant-loop-k l = (length l.session-items ≡ SESSIONS) × (take l.k l.session-items ≡ read_sessions l.k (drop l.at l.s))
