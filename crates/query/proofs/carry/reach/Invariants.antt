-- `query::carry::reach` meets its contract: the rows from the next role on are made.
-- Assumes nothing.
use Rattle.std.proofs.Common.{◌≡◌, length}
use Rattle.sets.specs.Words.{value}
use Rattle.query.specs.Carry.{rows_of}
use Rattle.query.proofs.Reach.{Reached}
use Rattle.query.proofs.carry.reach.Given as goal

abbrev pub invariant-loop-k : goal.invariant-loop-k
invariant-loop-k l = (length l.out ≡ 64) × Reached (rows_of l.rows) l.set l.out (value l.all) l.k
