-- `clauses_hard::sizes::counters_size` meets its contract.
-- Assumes nothing.
use mathlib.Core.Path.{◌≡◌}
use Prim.Native.Nat.{◌*◌, ◌≤◌}
use lib.ListN.{get_or}
use Rattle.query_reduced.specs.Met.{masks_of, ns_of}
use Rattle.query_reduced.specs.Reduction.{listed}
use Rattle.clauses_hard.specs.Sizes.{sum_to, counter_size}
use Rattle.clauses_hard.proofs.sizes.counters_size.Given as goal

abbrev pub invariant-loop-x : goal.invariant-loop-x
invariant-loop-x l =
    (l.total ≡ sum_to (λ k. counter_size (get_or (ns_of (listed l.exclusions)) k 0) (get_or (masks_of (listed l.exclusions)) k 0)) l.x-index)
    × (l.total ≤ 549755813762 * l.x-index)
