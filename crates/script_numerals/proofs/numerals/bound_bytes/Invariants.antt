-- The bytes from the last digits on.
-- Assumes nothing.
use mathlib.Core.Path.{◌≡◌}
use mathlib.Core.Bool.{true}
use Prim.Native.Nat.{◌+◌, ◌-◌, ◌*◌, ◌≤◌}
use lib.ListN.{length, take}
use Rattle.model.specs.Tests.{all}
use Rattle.model_script.specs.Script.{is_digit, value}
use Rattle.script_numerals.proofs.FillLaws.{Filling}
use Rattle.script_numerals.proofs.numerals.bound_bytes.Given as goal

abbrev pub invariant-loop-j : goal.invariant-loop-j
invariant-loop-j l =
    (l.j-end ≤ 32) × (2 * l.j-end ≤ length l.w + 1) × (length l.w ≤ 2 * l.j-end) × (all (is_digit 16) l.w ≡ true)
    × Filling (value 16 l.w) l.bytes l.j (value 16 (take (length l.w - 2 * l.j) l.w))
