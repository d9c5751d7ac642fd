-- `moves_line::copy` meets its contract. The loop's invariant: the first j bytes of `bytes` are in place, and `s` is as
-- long as it was.
-- Assumes nothing.
use mathlib.Core.Path.{◌≡◌}
use Prim.Native.Nat.{◌-◌, ◌≤◌}
use lib.ListN.{length}
use lib.Seq.{paste}
use Rattle.moves_line.proofs.copy.Given as goal

abbrev pub invariant-loop-j : goal.invariant-loop-j
invariant-loop-j l = (l.j ≤ l.j-end) × (l.j-end ≡ length l.bytes) × (l.s ≡ paste l.initial.s l.at l.bytes l.j) × (length l.s ≡ length l.initial.s)

abbrev pub decreases-loop-j : goal.decreases-loop-j
decreases-loop-j l = l.j-end - l.j
