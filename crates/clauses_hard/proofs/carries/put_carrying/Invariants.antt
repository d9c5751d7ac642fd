-- `clauses_hard::carries::put_carrying` meets its contract: what is put is the list up to the next number.
-- Assumes nothing.
use mathlib.Core.Path.{◌≡◌}
use lib.ListN.{length}
use Rattle.model.specs.Clauses.{list_to, role_variable}
use Rattle.clauses_bytes.specs.Putting.{Puts}
use Rattle.clauses_lines.specs.Lines.{lines_of}
use Rattle.clauses_hard.specs.Parts.{rows_of, carrying_row}
use Rattle.clauses_hard.proofs.carries.put_carrying.Given as goal

abbrev pub invariant-loop-r : goal.invariant-loop-r
invariant-loop-r l =
    (length l.out ≡ length l.initial.out)
    × Puts l.initial.out l.at
    (lines_of l.w (list_to l.r (λ k. carrying_row l.variables.roles l.variables.permissions (rows_of l.rows k) (role_variable k)))) l.out l.next
