-- `sets::perm_union_at` meets its contract. The loop's invariant: the rows so far are joined, those of the roles to
-- come are not.
-- Assumes nothing.
use Rattle.std.proofs.Common.{get_or}
use Rattle.sets.specs.Words.{value, values}
use Rattle.sets.proofs.Unions.{Joins}
use Rattle.sets.proofs.perm_union_at.Given as goal

abbrev pub invariant-loop-r : goal.invariant-loop-r
invariant-loop-r l = Joins (λ r. get_or (values l.rows) r 0) l.roles l.r-iterator.left (value l.all)
