-- `hierarchy_judged::loops::lowest_on_loop` meets its contract. The invariant: no role so far passes.
-- Assumes nothing.
use mathlib.Core.Path.{◌≡◌}
use Prim.Native.Nat.{◌-◌}
use lib.ListN.{get_or}
use Rattle.model.specs.Tests.{lowest}
use Rattle.model.specs.Sets.{has}
use Rattle.hierarchy_judged.proofs.loops.lowest_on_loop.Given as goal

abbrev pub invariant-loop-r : goal.invariant-loop-r
invariant-loop-r l =
    lowest (λ a. has (get_or l.below a 0) a) l.r (l.roles - l.r) ≡ lowest (λ a. has (get_or l.below a 0) a) 0 l.roles
