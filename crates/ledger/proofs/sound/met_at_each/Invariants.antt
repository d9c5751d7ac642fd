-- `ledger::sound::met_at_each` meets its contract. The loop's invariant: it is met at all sessions where it is at those
-- to come.
-- Assumes nothing.
use mathlib.Core.Path.{◌≡◌}
use lib.ListN.{drop}
use Rattle.model.specs.Tests.{all}
use Rattle.model.specs.Policy.{met}
use Rattle.model.specs.Line.{counted}
use Rattle.ledger.specs.Held.{met_at}
use Rattle.ledger.proofs.sound.met_at_each.Given as goal

abbrev pub invariant-loop-s : goal.invariant-loop-s
invariant-loop-s l = all (λ s. met (counted l.l s) l.x) (drop l.s-index l.l.sessions) ≡ met_at l.l l.x
