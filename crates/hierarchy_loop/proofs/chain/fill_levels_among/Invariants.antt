-- `hierarchy_loop::chain::fill_levels_among` meets its contract. The invariant: the levels so far are stored, and the
-- role is in none of them but the first.
-- Assumes nothing.
use mathlib.Core.Path.{◌≡◌}
use Prim.Native.Nat.{◌+◌, ◌-◌}
use lib.ListN.{length}
use Rattle.model.specs.Tests.{lowest}
use Rattle.model.specs.Sets.{has}
use Rattle.model.specs.Loop.{level}
use Rattle.hierarchy_loop.specs.Chained.{Levels}
use Rattle.hierarchy_loop.proofs.chain.fill_levels_among.Given as goal

abbrev pub invariant-loop-k : goal.invariant-loop-k
invariant-loop-k l =
    record {
      size : length l.levels ≡ 64;
      here : l.here ≡ level l.juniors l.r.0 l.k;
      stored : Levels l.juniors l.r.0 l.k l.levels;
      above : lowest (λ n. has (level l.juniors l.r.0 n) l.r.0) (l.k + 1) (65 - (l.k + 1)) ≡ lowest (λ n. has (level l.juniors l.r.0 n) l.r.0) 1 64;
    }
