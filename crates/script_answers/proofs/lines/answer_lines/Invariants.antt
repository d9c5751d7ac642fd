-- Line after line is answered, and what is left to do stays the same.
-- Assumes nothing.
use mathlib.Core.Path.{◌≡◌}
use mathlib.Core.List.{List, ◌++◌}
use Prim.Native.Nat.{ℕ, ◌+◌, ◌-◌, ◌≤◌, ◌<◌}
use lib.ListN.{length, drop}
use Rattle.script_input.specs.Kept.{lines_from}
use Rattle.script_text.specs.Writing.{written}
use Rattle.script_answers.specs.Buffers.{outcome, GoesOn}
use Rattle.script_answers.proofs.lines.answer_lines.Given as goal

abbrev pub invariant-loop-text : goal.invariant-loop-text
invariant-loop-text l =
    (l.initial.next ≤ l.next) × (l.next ≤ length l.chunk) × (l.initial.text.at < l.text.at → l.initial.next < l.next)
    × (l.calls + l.initial.next ≤ l.initial.calls + l.next) × GoesOn l.initial.text l.text
    × ((more : List ℕ) → outcome l.image l.initial.ledger l.initial.calls (written l.initial.text)
    (lines_from l.initial.line (drop l.initial.next l.chunk ++ more))
    ≡ outcome l.image l.ledger l.calls (written l.text) (lines_from l.line (drop l.next l.chunk ++ more)))

abbrev pub decreases-loop-text : goal.decreases-loop-text
decreases-loop-text l = length l.chunk - l.next
