-- `clauses_counter::counter::put_keeping` meets its contract: what is put is the list up to the next number.
-- Assumes nothing.
use mathlib.Core.Path.{◌≡◌}
use Prim.Native.Nat.{◌+◌}
use lib.ListN.{length}
use Rattle.model.specs.Clauses.{list_to, gives}
use mathlib.Core.List.{[], ◌∷◌}
use Rattle.clauses_bytes.specs.Putting.{Puts}
use Rattle.clauses_lines.specs.Lines.{lines_of}
use Rattle.clauses_counter.proofs.counter.put_keeping.Given as goal

abbrev pub invariant-loop-j : goal.invariant-loop-j
invariant-loop-j l =
    (length l.out ≡ length l.initial.out)
    × Puts l.initial.out l.at (lines_of l.w (list_to l.j (λ k. gives (l.a + k + 1) (l.a + l.n + k + 1) ∷ []))) l.out l.next
