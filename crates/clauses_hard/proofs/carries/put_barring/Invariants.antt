-- `clauses_hard::carries::put_barring` meets its contract: what is put is the list up to the next number.
-- Assumes nothing.
use mathlib.Core.Path.{◌≡◌}
use lib.ListN.{length}
use Rattle.model.specs.Clauses.{list_to}
use Rattle.clauses_bytes.specs.Putting.{Puts}
use Rattle.clauses_lines.specs.Lines.{lines_of}
use Rattle.clauses_hard.specs.Parts.{barred}
use Rattle.clauses_hard.proofs.carries.put_barring.Given as goal

abbrev pub invariant-loop-r : goal.invariant-loop-r
invariant-loop-r l =
    (length l.out ≡ length l.initial.out) × Puts l.initial.out l.at (lines_of l.w (list_to l.r (λ k. barred l.authorized k))) l.out l.next
