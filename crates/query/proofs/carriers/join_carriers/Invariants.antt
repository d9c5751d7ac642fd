-- `query::carriers::join_carriers` meets its contract. The loop's invariant: the roles before those to come have
-- joined.
-- Assumes nothing.
use Rattle.sets.specs.Words.{value}
use Rattle.query.specs.Carry.{rows_of}
use Rattle.query.proofs.Marks.{Joined}
use Rattle.query.proofs.carriers.join_carriers.Given as goal

abbrev pub invariant-loop-k : goal.invariant-loop-k
invariant-loop-k l = Joined (rows_of l.rows) (value l.wanted) l.set l.k-iterator.left l.table
