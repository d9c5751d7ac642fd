-- `query_reduced::exclusions::reduce` meets its contract: the exclusions before the next one are reduced.
-- Assumes nothing.
use mathlib.Core.Path.{◌≡◌}
use lib.ListN.{length}
use Rattle.model.specs.declared.Exclusion.{Exclusion}
use Rattle.model.specs.Reduced.{stay}
use Rattle.query_reduced.specs.Reduction.{reduced_by}
use Rattle.query_reduced.proofs.Reductions.{Filled}
use Rattle.query_reduced.proofs.exclusions.reduce.Given as goal

abbrev pub invariant-loop-i : goal.invariant-loop-i
invariant-loop-i l =
    (length l.rows ≡ 32) × Filled (λ (y : Exclusion). reduced_by y.members y.n (stay y.kind l.elsewhere l.own l.at.line.history)) l.x-items l.rows l.i
