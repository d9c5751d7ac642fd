-- Each turn reads at most 65,536 bytes and answers no more calls than that, so that the counts stay within 64 bits.
-- Assumes nothing.
use Prim.Native.Nat.{◌*◌, ◌≤◌}
use Rattle.survey_counts.specs.Counting.{Most}
use Rattle.nutrameza_survey.proofs.input.count_each.Given as goal

abbrev pub invariant-loop-turn : goal.invariant-loop-turn
invariant-loop-turn g l =
    (l.calls ≤ 65536 * l._turn) × Most l.counts l.calls
