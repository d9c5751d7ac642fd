-- `limits_left::some_limited` meets its contract: a walk through the set by its members.
-- Assumes nothing.
use Rattle.limits_left.proofs.Leaving.{Walked}
use Rattle.limits_left.proofs.some_limited.Given as goal

abbrev pub invariant-loop-r : goal.invariant-loop-r
invariant-loop-r l = Walked l.limits l.set l.r-iterator.left
