-- `clauses_hard::carries::put_carried` meets its contract: what is put is the list up to the next number.
-- Assumes nothing.
use mathlib.Core.Path.{◌≡◌}
use lib.ListN.{length}
use Rattle.model.specs.Clauses.{list_to}
use mathlib.Core.List.{[], ◌∷◌}
use Rattle.clauses_bytes.specs.Putting.{Puts}
use Rattle.clauses_lines.specs.Lines.{lines_of}
use Rattle.clauses_hard.specs.Parts.{rows_of, carried_one}
use Rattle.clauses_hard.proofs.carries.put_carried.Given as goal

abbrev pub invariant-loop-q : goal.invariant-loop-q
invariant-loop-q l =
    (length l.out ≡ length l.initial.out)
    × Puts l.initial.out l.at (lines_of l.w (list_to l.q (λ k. carried_one l.variables.roles (rows_of l.rows) k ∷ []))) l.out l.next
