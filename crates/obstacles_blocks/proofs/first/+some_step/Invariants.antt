-- `obstacles_blocks::first::some_step`: the roles still free fall.
-- Assumes nothing.
use Rattle.model.specs.Sets.{count}
use Rattle.search_steps.specs.Search.{task_of}
use Rattle.obstacles_blocks.proofs.Firsts.{Passing}
use Rattle.obstacles_blocks.proofs.first.+some_step.Given as goal

abbrev pub decreases-some_step : goal.decreases-some_step
decreases-some_step l = count 64 l.node.free

abbrev pub invariant-loop-k : goal.invariant-loop-k
invariant-loop-k l = Passing (task_of l.query) l.node.chosen l.node.free l.k-iterator.left l.still
