-- Line after line.
-- Assumes nothing.
use Prim.Native.Nat.{◌+◌, ◌-◌, ◌*◌, ◌≤◌}
use lib.ListN.{get_or}
use Rattle.script_text.specs.Writing.{Writes}
use Rattle.model_survey.specs.Survey.{count_lines}
use Rattle.survey_counts.proofs.counts.put_counts.Given as goal

abbrev pub invariant-loop-n : goal.invariant-loop-n
invariant-loop-n l =
    (l.n ≤ 256) × (l.text.at ≤ l.initial.text.at + 42 * l.n) × Writes l.initial.text l.text (count_lines (λ k. get_or l.counts k 0) l.n)

abbrev pub decreases-loop-n : goal.decreases-loop-n
decreases-loop-n l = 256 - l.n
