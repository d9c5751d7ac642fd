-- The file is read to its end, to the buffer's end or to a read that fails; the measure is the room that is left.
-- Assumes nothing.
use mathlib.Core.Path.{◌≡◌}
use Prim.Native.Nat.{◌-◌, ◌≤◌}
use lib.ListN.{length}
use Rattle.script_input.proofs.file.read_file.Given as goal

abbrev pub invariant-loop-have : goal.invariant-loop-have
invariant-loop-have g l = (l.have ≤ length l.file) × (length l.file ≡ length l.initial.file)

abbrev pub decreases-loop-have : goal.decreases-loop-have
decreases-loop-have g l = length l.file - l.have
