-- `ledger::sound::exclusions_met` meets its contract. The loop's invariant: all exclusions are met where those to come
-- are.
-- Assumes nothing.
use mathlib.Core.Path.{◌≡◌}
use lib.ListN.{drop}
use Rattle.model.specs.Tests.{all}
use Rattle.model.specs.Policy.{Meaning}
use Rattle.model.specs.Line.{exclusions_met}
use Rattle.exclusion_rows.specs.Table.{exclusions_of}
use Rattle.ledger.specs.Held.{met_at, named_by, Listed}
use Rattle.ledger.proofs.sound.exclusions_met.Given as goal

abbrev pub invariant-loop-x : goal.invariant-loop-x
invariant-loop-x l =
    (l.all ≡ named_by l.l) × ((m : Meaning) → Listed (exclusions_of l.xs) m → all (met_at l.l) (drop l.x-index l.x-items) ≡ exclusions_met m l.l)
