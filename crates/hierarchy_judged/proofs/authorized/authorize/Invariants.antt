-- `hierarchy_judged::authorized::authorize` meets its contract. The invariant: the rows of the users so far have what
-- they reach, at most 16 roles each.
-- Assumes nothing.
use Rattle.hierarchy_judged.proofs.Reaching.{Sofar}
use Rattle.hierarchy_judged.proofs.authorized.authorize.Given as goal

abbrev pub invariant-loop-u : goal.invariant-loop-u
invariant-loop-u l = Sofar l.below l.users l.fn.assigned l.u l.row-items
