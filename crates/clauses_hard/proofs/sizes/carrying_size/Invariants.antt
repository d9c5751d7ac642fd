-- `clauses_hard::sizes::carrying_size` meets its contract.
-- Assumes nothing.
use mathlib.Core.Path.{◌≡◌}
use Prim.Native.Nat.{◌*◌, ◌≤◌}
use Rattle.model.specs.Sets.{count}
use Rattle.clauses_hard.specs.Parts.{rows_of}
use Rattle.clauses_hard.specs.Sizes.{sum_to}
use Rattle.clauses_hard.proofs.sizes.carrying_size.Given as goal

abbrev pub invariant-loop-row : goal.invariant-loop-row
invariant-loop-row l =
    (l.total ≡ sum_to (λ k. count l.variables.permissions (rows_of l.rows k)) l.row-index) × (l.total ≤ 256 * l.row-index)
