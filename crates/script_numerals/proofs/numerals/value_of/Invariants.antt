-- The number of the digits passed, and that it stays small.
-- Assumes nothing.
use mathlib.Core.Path.{◌≡◌}
use Prim.Native.Nat.{◌+◌, ◌*◌, ◌^◌, ◌≤◌}
use lib.ListN.{length, drop}
use Rattle.model_script.specs.Script.{value_from, value}
use Rattle.script_numerals.proofs.numerals.value_of.Given as goal

abbrev pub invariant-loop-c : goal.invariant-loop-c
invariant-loop-c l =
    (length l.w ≤ 9) × (l.v + 2 ≤ 2 * 10 ^ l.c-index) × (value_from 10 l.v (drop l.c-index l.w) ≡ value 10 l.w)
