-- `clauses_hard::members::permissions_below` meets its contract: the total is that of the numbers so far. The measure
-- is what is left up to n.
-- Assumes nothing.
use mathlib.Core.Path.{◌≡◌}
use Prim.Native.Nat.{◌-◌, ◌≤◌}
use Rattle.model.specs.Sets.{count}
use Rattle.sets.specs.Words.{value}
use Rattle.clauses_hard.proofs.members.permissions_below.Given as goal

abbrev pub invariant-loop-from : goal.invariant-loop-from
invariant-loop-from l = (l.from ≤ l.n) × (l.total ≡ count l.from (value l.set)) × (l.total ≤ l.from)

abbrev pub decreases-loop-from : goal.decreases-loop-from
decreases-loop-from l = l.n - l.from
