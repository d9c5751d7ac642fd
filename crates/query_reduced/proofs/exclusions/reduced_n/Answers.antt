-- `query_reduced::exclusions::reduced_n` meets its contract.
-- Assumes nothing.
use native.Mathlib.Omega.{arith}
use Rattle.model.specs.Reduced.{reduced_n}
use Rattle.query_reduced.proofs.exclusions.reduced_n.Goals as goal

pub returns-then-used-most : goal.returns-then-used-most
unfolding reduced_n
returns-then-used-most c = rw (c.size-used.ensures, c.inter.ensures)

pub returns : goal.returns
unfolding reduced_n
returns c = rw (← c.inter.ensures, ← c.size-used.ensures) (omega arith)
