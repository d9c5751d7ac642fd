-- `hierarchy::reach::reached_by` meets its contract. The loop's invariant: the roles so far are joined, those of the
-- members to come are not.
-- Assumes nothing.
use lib.ListN.{get_or}
use Rattle.model.specs.Policy.{with_selves}
use Rattle.sets.proofs.Unions.{Joins}
use Rattle.hierarchy.proofs.reach.reached_by.Given as goal

abbrev pub invariant-loop-k : goal.invariant-loop-k
invariant-loop-k l = Joins (λ r. get_or (with_selves l.below) r 0) l.set l.k-iterator.left l.all
