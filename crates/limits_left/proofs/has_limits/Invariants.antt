-- `limits_left::has_limits` meets its contract. The invariant: some role has a limit where one before has, or one to
-- come.
-- Assumes nothing.
use mathlib.Core.Bool.{◌||◌}
use mathlib.Core.Path.{◌≡◌}
use lib.ListN.{drop}
use Rattle.model.specs.Tests.{any}
use Rattle.limits_left.proofs.Leaving.{given}
use Rattle.limits_left.proofs.has_limits.Given as goal

abbrev pub invariant-loop-t : goal.invariant-loop-t
invariant-loop-t l = (given l.found || any given (drop l.t-index l.limits)) ≡ any given l.limits
