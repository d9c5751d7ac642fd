-- `moves_line::sessions_in` meets its contract. The loop's invariant: the first k sessions are read, and those behind
-- them are empty.
-- Assumes nothing.
use mathlib.Core.Path.{◌≡◌}
use Prim.Native.Nat.{◌-◌}
use lib.ListN.{length, take, drop, replicate}
use Rattle.model.specs.Line.{SESSIONS, read_sessions, empty_session}
use Rattle.moves_line.proofs.sessions_in.Given as goal

abbrev pub invariant-loop-k : goal.invariant-loop-k
invariant-loop-k l =
    (length l.sessions ≡ SESSIONS) × (take l.k l.sessions ≡ read_sessions l.k (drop 16 l.line.bytes.now))
    × (drop l.k l.sessions ≡ replicate (SESSIONS - l.k) empty_session)
