-- `query::carriers::mark_row` meets its contract. The loop's invariant: role r has joined by the words so far.
-- Assumes nothing.
use Prim.Native.Nat.{◌≤◌, ◌-◌}
use lib.ListN.{get_or}
use Rattle.model.specs.Sets.{inter}
use Rattle.query.proofs.Marks.{Rowed}
use Rattle.query.proofs.carriers.mark_row.Given as goal

abbrev pub invariant-loop-place : goal.invariant-loop-place
invariant-loop-place l = (l.place ≤ 4) × Rowed (λ q. inter (get_or l.row q 0) (get_or l.wanted q 0)) l.r.0 l.initial.table l.place l.table

abbrev pub decreases-loop-place : goal.decreases-loop-place
decreases-loop-place l = 4 - l.place
