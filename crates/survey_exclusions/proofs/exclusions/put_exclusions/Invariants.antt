-- Line after line: the reader goes from one exclusion to the next, i of them so far.
-- Assumes nothing.
use Prim.Native.Nat.{ℕ, ◌+◌, ◌*◌, ◌-◌, ◌≤◌}
use lib.ListN.{length}
use Rattle.model.specs.Policy.{policy_of}
use Rattle.survey_exclusions.proofs.ExclusionLaws.{Walked}
use Rattle.survey_exclusions.proofs.exclusions.put_exclusions.Given as goal

abbrev pub invariant-loop-at : goal.invariant-loop-at
invariant-loop-at l = (i : ℕ) × (i ≤ length (policy_of l.image).exclusions) × (l.text.at ≤ l.fn.text.at + 84 * i) × Walked l.image l.fn.text l.place i l.text

abbrev pub decreases-loop-at : goal.decreases-loop-at
decreases-loop-at l = length l.image - l.place
