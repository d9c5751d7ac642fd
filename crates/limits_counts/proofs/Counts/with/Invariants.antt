-- `limits_counts::Counts::with` meets its contract: plane by plane, what is carried is added.
-- Assumes nothing.
use mathlib.Core.Path.{◌≡◌}
use Prim.Native.Nat.{ℕ, ◌+◌}
use lib.ListN.{length}
use Rattle.model.specs.Sets.{has, one}
use Rattle.limits_counts.specs.Counted.{count_at}
use Rattle.limits_counts.proofs.Planes.{Carried}
use Rattle.limits_counts.proofs.Counts.with.Given as goal

abbrev pub invariant-loop-plane : goal.invariant-loop-plane
invariant-loop-plane l =
    (length l.plane-items ≡ 10) × ((r : ℕ) → Carried l.plane-items l.plane-index l.carried (count_at l.fn.self r + one (has l.fn.word r)) r)
