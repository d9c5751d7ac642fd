-- `hierarchy::closure::through_first` meets its contract. The loop's invariant: the rows below the index have taken in
-- row k.
-- Assumes nothing.
use mathlib.Core.Path.{◌≡◌}
use lib.ListN.{take}
use Rattle.model.specs.Policy.{taking}
use Rattle.hierarchy.proofs.Closing.{map_to}
use Rattle.hierarchy.proofs.closure.through_first.Given as goal

abbrev pub invariant-loop-row : goal.invariant-loop-row
invariant-loop-row l = l.row-items ≡ map_to (taking l.k.0 l.other) l.row-index (take l.m l.fn.rows)
