-- `limits_held::add_sessions` meets its contract. The invariant: what is counted and what the sessions to come hold
-- make the whole.
-- Assumes nothing.
use mathlib.Core.Path.{◌≡◌}
use Prim.Native.Nat.{ℕ, ◌+◌, ◌≤◌}
use lib.ListN.{drop}
use Rattle.model.specs.Line.{holding}
use Rattle.limits_counts.specs.Counted.{count_at}
use Rattle.limits_held.proofs.add_sessions.Given as goal

abbrev pub invariant-loop-s : goal.invariant-loop-s
invariant-loop-s l =
    (r : ℕ) → (count_at l.all r + holding r (drop l.s-index l.fn.sessions) ≡ count_at l.initial.all r + holding r l.fn.sessions)
    × (count_at l.all r ≤ count_at l.initial.all r + l.s-index)
