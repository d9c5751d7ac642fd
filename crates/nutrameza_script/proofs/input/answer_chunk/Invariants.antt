-- Lines are answered until the chunk ends; each turn passes a byte or more.
-- Assumes nothing.
use Prim.Native.Nat.{◌+◌, ◌-◌, ◌≤◌}
use lib.ListN.{length}
use Rattle.nutrameza_script.proofs.input.answer_chunk.Given as goal

abbrev pub invariant-loop-p : goal.invariant-loop-p
invariant-loop-p g l = (l.p.next ≤ length l.chunk) × (l.p.calls ≤ l.fn.calls + l.p.next)

abbrev pub decreases-loop-p : goal.decreases-loop-p
decreases-loop-p g l = length l.chunk - l.p.next
