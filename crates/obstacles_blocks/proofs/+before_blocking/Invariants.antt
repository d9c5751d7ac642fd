-- `obstacles_blocks::before_blocking`: the exclusions between fall.
-- Assumes nothing.
use Rattle.std.proofs.Common.{◌-◌}
use Rattle.obstacles_blocks.proofs.+before_blocking.Given as goal

abbrev pub decreases-before_blocking : goal.decreases-before_blocking
decreases-before_blocking l = l.high - l.low
