-- `tables_exclusions::exclusions::exclusions_at` meets its contract. The loop's invariant: the exclusions so
-- far are those at the places so far.
-- Assumes nothing.
use mathlib.Core.Path.{◌≡◌}
use mathlib.Core.List.{map}
use lib.ListN.{take}
use Rattle.tables_exclusions.specs.Exclusions.{exclusion_at}
use Rattle.tables_exclusions.proofs.exclusions.exclusions_at.Given as goal

abbrev pub invariant-loop-i : goal.invariant-loop-i
invariant-loop-i l = take l.i l.table.rows ≡ map (exclusion_at l.image.bytes.now l.image.count) (take l.i l.places)
