-- `limits_counts::Counts::of` meets its contract. The loop's invariant: what is read and what the planes from i on hold
-- make the count.
-- Assumes nothing.
use mathlib.Core.Path.{◌≡◌}
use Prim.Native.Nat.{◌+◌, ◌*◌, ◌^◌, ◌<◌}
use lib.ListN.{drop}
use Rattle.limits_counts.specs.Counted.{count_in}
use Rattle.limits_counts.proofs.Counts.of.Given as goal

abbrev pub invariant-loop-i : goal.invariant-loop-i
invariant-loop-i l = (l.count + 2 ^ l.i * count_in (drop l.i l.fn.self.planes) l.fn.r.0 ≡ count_in l.fn.self.planes l.fn.r.0) × (l.count < 2 ^ l.i)
