-- `tables_rows::explain::first_carrier` meets its contract. The loop's invariant: no role before those to come has a
-- granting role.
-- Assumes nothing.
use Rattle.model.specs.Tests.{is_some}
use Rattle.model.specs.Sets.{has}
use Rattle.model.specs.Policy.{with_selves, granter_by}
use Rattle.tables_rows.proofs.Explaining.{Seeks}
use Rattle.tables_rows.proofs.explain.first_carrier.Given as goal

abbrev pub invariant-loop-k : goal.invariant-loop-k
invariant-loop-k l = Seeks (λ r. is_some (granter_by (with_selves l.below) (has l.holding) r)) l.set l.k-iterator.left
