-- `tables_rows::carried::fill_carried` meets its contract. The loop's invariant: the rows of the roles before those to
-- come are made.
-- Assumes nothing.
use Rattle.model.specs.Policy.{with_selves}
use Rattle.sets.specs.Words.{values}
use Rattle.tables_rows.proofs.Carrying.{Made}
use Rattle.tables_rows.proofs.carried.fill_carried.Given as goal

abbrev pub invariant-loop-k : goal.invariant-loop-k
invariant-loop-k l = Made (values l.grants.granted.now) (with_selves l.grants.below.now) l.wanted l.k-iterator.left l.out
