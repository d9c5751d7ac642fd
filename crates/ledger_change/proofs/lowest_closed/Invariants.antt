-- `ledger_change::lowest_closed` meets its contract. The loop's invariant: the lowest closed one from session k on is
-- the lowest of all.
-- Assumes nothing.
use mathlib.Core.Path.{◌≡◌}
use Prim.Native.Nat.{◌-◌}
use Rattle.model.specs.Line.{SESSIONS, lowest_closed}
use Rattle.ledger_change.proofs.lowest_closed.Given as goal

abbrev pub invariant-loop-k : goal.invariant-loop-k
invariant-loop-k l = lowest_closed l.l l.k (SESSIONS - l.k) ≡ lowest_closed l.l 0 SESSIONS
