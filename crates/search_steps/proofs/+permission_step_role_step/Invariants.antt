-- `search_steps::permission_step` and `role_step`: what falls counts the permissions still wanted and, twice, the roles
-- still free; a permission step stands one above the role step that it makes.
-- Assumes nothing.
use Rattle.std.proofs.Common.{◌+◌, ◌*◌}
use Rattle.model.specs.Sets.{count}
use Rattle.sets.specs.Words.{value}
use Rattle.search_steps.specs.Search.{task_of}
use Rattle.search_steps.proofs.Turns.{wanted}
use Rattle.search_steps.proofs.Loops.{Trying}
use Rattle.search_steps.proofs.+permission_step_role_step.Given as goal

abbrev pub decreases-permission_step : goal.decreases-permission_step
decreases-permission_step l = wanted (value l.query.now.job.lower) (value l.node.carried) + 2 * count 64 l.node.free + 1

abbrev pub decreases-role_step : goal.decreases-role_step
decreases-role_step l = wanted (value l.query.now.job.lower) (value l.node.carried) + 2 * count 64 l.node.free

abbrev pub invariant-role_step-loop-k : goal.invariant-role_step-loop-k
invariant-role_step-loop-k l =
    Trying (task_of l.query) l.tries l.node.chosen l.initial.still l.initial.found l.k-iterator.left l.still l.found
