-- Pair after pair; what is done and what is left are the whole.
-- Assumes nothing.
use mathlib.Core.Path.{◌≡◌}
use mathlib.Core.List.{List, ◌++◌}
use Prim.Native.Nat.{ℕ, ◌+◌, ◌-◌, ◌*◌, ◌≤◌}
use lib.ListN.{length}
use Rattle.script_text.specs.Writing.{Writes}
use Rattle.script_text_lines.specs.Pairs.{pairs_of}
use Rattle.script_text_lines.proofs.put_pairs.Given as goal

abbrev pub invariant-loop-b : goal.invariant-loop-b
invariant-loop-b l =
    (length l.yielded ≤ length l.bytes) × (l.text.at + 2 * (length l.bytes - length l.yielded) ≤ length l.text.out.now)
    × ((done : List ℕ) × (pairs_of (length l.bytes) l.bytes ≡ done ++ pairs_of (length l.bytes - length l.yielded) l.bytes)
    × Writes l.initial.text l.text done)
