-- `clauses_counter::counter::put_adding` meets its contract: what is put is the list up to the next number.
-- Assumes nothing.
use mathlib.Core.Path.{◌≡◌}
use Prim.Native.Nat.{◌+◌}
use lib.ListN.{length}
use Rattle.model.specs.Clauses.{list_to, give}
use mathlib.Core.List.{[], ◌∷◌}
use Rattle.clauses_bytes.specs.Putting.{Puts}
use Rattle.clauses_lines.specs.Lines.{lines_of}
use Rattle.clauses_counter.proofs.counter.put_adding.Given as goal

abbrev pub invariant-loop-j : goal.invariant-loop-j
invariant-loop-j l =
    (length l.out ≡ length l.initial.out)
    × Puts l.initial.out l.at (lines_of l.w (list_to l.j (λ k. give l.x (l.a + k + 1) (l.a + l.n + k + 2) ∷ []))) l.out l.next
