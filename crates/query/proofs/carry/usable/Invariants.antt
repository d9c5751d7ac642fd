-- `query::carry::usable` meets its contract. The loop's invariant: of the roles before those to come the set so far has
-- those that pass.
-- Assumes nothing.
use Rattle.model.specs.Sets.{within}
use Rattle.sets.specs.Words.{value}
use Rattle.query.specs.Carry.{rows_of}
use Rattle.query.proofs.Walks.{Walk}
use Rattle.query.proofs.carry.usable.Given as goal

abbrev pub invariant-loop-k : goal.invariant-loop-k
invariant-loop-k l = Walk (λ i. within (rows_of l.rows i) (value l.upper)) l.set l.k-iterator.left l.found
