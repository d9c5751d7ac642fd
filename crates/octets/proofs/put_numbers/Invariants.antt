-- `octets::put_numbers` meets its contract. The loop's invariant: the first k numbers are in place, and `s` is as long
-- as it was.
-- Assumes nothing.
use mathlib.Core.Path.{◌≡◌}
use lib.ListN.{take}
use Rattle.octets.specs.Splice.{splice, bytes_of_all}
use Rattle.octets.proofs.put_numbers.Given as goal

abbrev pub invariant-loop-k : goal.invariant-loop-k
invariant-loop-k l = l.s ≡ splice l.initial.s l.at (bytes_of_all (take l.k l.numbers))
