-- `limits_held::held` meets its contract. The invariant: the users before v are counted.
-- Assumes nothing.
use mathlib.Core.Path.{◌≡◌}
use Prim.Native.Nat.{ℕ, ◌*◌, ◌-◌, ◌≤◌}
use Rattle.model.specs.Line.{SESSIONS}
use Rattle.limits_counts.specs.Counted.{count_at}
use Rattle.limits_held.specs.Held.{held_by_all}
use Rattle.limits_held.proofs.held.Given as goal

abbrev pub invariant-loop-v : goal.invariant-loop-v
invariant-loop-v l =
    (l.v ≤ l.users) × ((r : ℕ) → (count_at l.all r ≡ held_by_all l.ledger l.user l.k l.v r) × (count_at l.all r ≤ SESSIONS * l.v))

abbrev pub decreases-loop-v : goal.decreases-loop-v
decreases-loop-v l = l.users - l.v
