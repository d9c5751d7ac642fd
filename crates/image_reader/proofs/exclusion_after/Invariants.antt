-- `image_reader::exclusion_after` meets its contract. The invariant: the first exclusion of the rest is that of the
-- whole.
-- Assumes nothing.
use mathlib.Core.Path.{◌≡◌}
use Prim.Native.Nat.{◌-◌}
use Rattle.image_reader.specs.Places.{exclusion_among, exclusion_after}
use Rattle.image_reader.proofs.exclusion_after.Given as goal

abbrev pub invariant-loop-at : goal.invariant-loop-at
invariant-loop-at l = exclusion_among l.image (l.last - l.at) l.at ≡ exclusion_after l.image l.place
