-- `ledger::plainly::few_in` meets its contract. The loop's invariant: all exclusions pass where those to come do.
-- Assumes nothing.
use mathlib.Core.Path.{◌≡◌}
use lib.ListN.{drop}
use Rattle.model.specs.Tests.{all}
use Rattle.exclusion_rows.specs.Table.{exclusions_of}
use Rattle.ledger.specs.Held.{few_in}
use Rattle.ledger.proofs.ByHistory.{few}
use Rattle.ledger.proofs.plainly.few_in.Given as goal

abbrev pub invariant-loop-x : goal.invariant-loop-x
invariant-loop-x l = all (few l.set) (drop l.x-index l.x-items) ≡ few_in l.set (exclusions_of l.xs)
