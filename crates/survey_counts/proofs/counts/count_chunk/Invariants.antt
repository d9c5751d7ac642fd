-- Line after line is answered and counted, and the counts in the end stay the same.
-- Assumes nothing.
use mathlib.Core.Path.{◌≡◌}
use mathlib.Core.List.{List, ◌++◌}
use Prim.Native.Nat.{ℕ, ◌+◌, ◌-◌, ◌≤◌}
use lib.ListN.{length, drop}
use Rattle.script_input.specs.Kept.{lines_from}
use Rattle.survey_counts.specs.Counting.{tally, Most}
use Rattle.survey_counts.proofs.counts.count_chunk.Given as goal

abbrev pub invariant-loop-next : goal.invariant-loop-next
invariant-loop-next l =
    (l.next ≤ length l.chunk) × (l.calls ≤ l.fn.calls + l.next) × (length l.counts ≡ 256) × Most l.counts l.calls
    × ((more : List ℕ) → tally l.image l.initial.ledger l.initial.counts (lines_from l.initial.line (l.chunk ++ more))
    ≡ tally l.image l.ledger l.counts (lines_from l.line (drop l.next l.chunk ++ more)))

abbrev pub decreases-loop-next : goal.decreases-loop-next
decreases-loop-next l = length l.chunk - l.next
