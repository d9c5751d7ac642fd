-- `search_steps::subset_step`: the roles still free fall.
-- Assumes nothing.
use Rattle.std.proofs.Common.{◌≡◌}
use Rattle.model.specs.Sets.{count}
use Rattle.search_steps.specs.Search.{task_of}
use Rattle.search_steps.proofs.Loops.{Walking}
use Rattle.search_steps.proofs.+subset_step.Given as goal

abbrev pub decreases-subset_step : goal.decreases-subset_step
decreases-subset_step l = count 64 l.node.free

abbrev pub invariant-loop-k : goal.invariant-loop-k
invariant-loop-k l =
    (l.rest ≡ record l.node { free = l.k-iterator.left })
    × Walking (task_of l.query) l.node.chosen l.node.free l.initial.found l.k-iterator.left l.found
