-- `ledger::sound::sessions_sound` meets its contract. The loop's invariant: all sessions are sound where those from k
-- on are.
-- Assumes nothing.
use mathlib.Core.Path.{◌≡◌}
use lib.ListN.{drop}
use Rattle.model.specs.Policy.{Meaning}
use Rattle.model.specs.Line.{sessions_sound}
use Rattle.ledger.proofs.sound.sessions_sound.Given as goal

abbrev pub invariant-loop-k : goal.invariant-loop-k
invariant-loop-k l =
    (m : Meaning) → m.authorized ≡ l.authorized → sessions_sound m l.fn.l l.k (drop l.k l.fn.l.sessions) ≡ sessions_sound m l.fn.l 0 l.fn.l.sessions
