-- `clauses_counter::counter::put_counters` meets its contract: the counters from the next exclusion on are still to be
-- put.
-- Assumes nothing.
use mathlib.Core.Path.{◌≡◌}
use Prim.Native.Nat.{◌+◌, ◌-◌, ◌*◌, ◌≤◌}
use lib.ListN.{length}
use Rattle.clauses_lines.specs.Lines.{lines_of}
use Rattle.query_reduced.specs.Met.{masks_of, ns_of}
use Rattle.query_reduced.specs.Reduction.{listed}
use Rattle.clauses_counter.specs.Counters.{counters}
use Rattle.clauses_bytes.proofs.WritingLaws.{Along}
use Rattle.clauses_counter.proofs.counter.put_counters.Given as goal

abbrev pub invariant-loop-x : goal.invariant-loop-x
invariant-loop-x l =
    (l.behind ≤ l.a + 274877906880 * l.x-index) × (length l.out ≡ length l.initial.out)
    × (let xs = listed l.exclusions in
    Along l.initial.out l.at (lines_of l.w (counters (masks_of xs) (ns_of xs) (length xs) 0 l.a))
    (lines_of l.w (counters (masks_of xs) (ns_of xs) (length xs - l.x-index) l.x-index l.behind)) l.out l.next)
