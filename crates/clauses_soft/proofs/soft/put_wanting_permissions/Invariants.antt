-- `clauses_soft::soft::put_wanting_permissions` meets its contract: what is put is the list up to the next number.
-- Assumes nothing.
use mathlib.Core.Path.{◌≡◌}
use Prim.Native.Nat.{◌+◌}
use lib.ListN.{length}
use Rattle.model.specs.Clauses.{list_to, wanting}
use Rattle.model.specs.Dimacs.{clauses_text}
use Rattle.query_rank.specs.Objectives.{number_of}
use Rattle.clauses_bytes.specs.Putting.{Puts}
use Rattle.clauses_soft.proofs.soft.put_wanting_permissions.Given as goal

abbrev pub invariant-loop-q : goal.invariant-loop-q
invariant-loop-q l =
    (length l.out ≡ length l.initial.out)
    × Puts l.initial.out l.at (clauses_text (list_to l.q (λ k. wanting (number_of l.aim) (l.variables.roles + 1) (l.variables.roles + k + 1)))) l.out l.next
