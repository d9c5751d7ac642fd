-- `ledger::plainly::sessions_sound_in` meets its contract. The loop's invariant: all sessions are sound where those
-- from k on are.
-- Assumes nothing.
use mathlib.Core.Path.{◌≡◌}
use Prim.Native.Nat.{◌-◌, ◌≤◌}
use lib.ListN.{drop}
use Rattle.model.specs.declared.Line.{Line}
use Rattle.model.specs.Policy.{Meaning}
use Rattle.model.specs.Line.{read_sessions, sessions_sound}
use Rattle.ledger.proofs.plainly.sessions_sound_in.Given as goal

abbrev pub invariant-loop-k : goal.invariant-loop-k
invariant-loop-k l =
    (l.k ≤ l.sessions)
    × ((m : Meaning) (w : Line) → m.authorized ≡ l.authorized → w.opened ≡ l.opened → w.history ≡ l.history
    → sessions_sound m w l.k (drop l.k (read_sessions l.sessions (drop 16 l.bytes)))
    ≡ sessions_sound m w 0 (read_sessions l.sessions (drop 16 l.bytes)))

abbrev pub decreases-loop-k : goal.decreases-loop-k
decreases-loop-k l = l.sessions - l.k
