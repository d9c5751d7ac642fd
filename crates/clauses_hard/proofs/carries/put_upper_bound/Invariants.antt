-- `clauses_hard::carries::put_upper_bound` meets its contract: what is put is the list up to the next number.
-- Assumes nothing.
use mathlib.Core.Path.{◌≡◌}
use lib.ListN.{length}
use Rattle.model.specs.Clauses.{list_to}
use Rattle.sets.specs.Words.{value}
use Rattle.clauses_bytes.specs.Putting.{Puts}
use Rattle.clauses_lines.specs.Lines.{lines_of}
use Rattle.clauses_hard.specs.Parts.{upper as upper_of}
use Rattle.clauses_hard.proofs.carries.put_upper_bound.Given as goal

abbrev pub invariant-loop-q : goal.invariant-loop-q
invariant-loop-q l =
    (length l.out ≡ length l.initial.out)
    × Puts l.initial.out l.at (lines_of l.w (list_to l.q (λ k. upper_of l.variables.roles (value l.upper) k))) l.out l.next
