-- `clauses_hard::carries::put_lower_bound` meets its contract: the lines of the members below the next one are put.
-- Assumes nothing.
use mathlib.Core.Path.{◌≡◌}
use Prim.Native.Nat.{◌+◌, ◌-◌}
use lib.ListN.{length}
use Rattle.model.specs.Clauses.{must}
use Rattle.sets.specs.Words.{value}
use Rattle.clauses_hard.proofs.WalkLaws.{Walked}
use Rattle.clauses_hard.proofs.carries.put_lower_bound.Given as goal

abbrev pub invariant-loop-q : goal.invariant-loop-q
invariant-loop-q l =
    (length l.out ≡ length l.initial.out)
    × Walked l.w (value l.lower) l.variables.permissions (λ k. must (l.variables.roles + k + 1)) l.initial.out l.at l.q l.out l.next

abbrev pub decreases-loop-q : goal.decreases-loop-q
decreases-loop-q l = l.variables.permissions - l.q
