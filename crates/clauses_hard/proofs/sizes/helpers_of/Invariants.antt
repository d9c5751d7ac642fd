-- `clauses_hard::sizes::helpers_of` meets its contract.
-- Assumes nothing.
use mathlib.Core.Path.{◌≡◌}
use Prim.Native.Nat.{◌*◌, ◌≤◌}
use lib.ListN.{get_or, length}
use Rattle.model.specs.Clauses.{variables_in}
use Rattle.query_reduced.specs.Met.{masks_of, ns_of}
use Rattle.query_reduced.specs.Reduction.{listed}
use Rattle.clauses_hard.specs.Sizes.{sum_to}
use Rattle.clauses_hard.proofs.sizes.helpers_of.Given as goal

abbrev pub invariant-loop-x : goal.invariant-loop-x
invariant-loop-x l =
    (l.total ≡ sum_to (λ k. length (variables_in (get_or (masks_of (listed l.exclusions)) k 0)) * get_or (ns_of (listed l.exclusions)) k 0) l.x-index)
    × (l.total ≤ 274877906880 * l.x-index)
