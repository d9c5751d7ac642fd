-- `clauses_counter::counter::put_rows` meets its contract: the rows of the members that are left are still to be put.
-- Assumes nothing.
use mathlib.Core.Path.{◌≡◌}
use Prim.Native.Nat.{◌+◌, ◌*◌, ◌^◌, ◌≤◌, ◌<◌}
use lib.ListN.{length}
use Rattle.model.specs.Sets.{count}
use Rattle.model.specs.Clauses.{rows, variables_in}
use Rattle.clauses_lines.specs.Lines.{lines_of}
use Rattle.clauses_bytes.proofs.WritingLaws.{Along}
use Rattle.clauses_counter.proofs.counter.put_rows.Given as goal

abbrev pub invariant-loop-r : goal.invariant-loop-r
invariant-loop-r l =
    (l.r-iterator.left < 2 ^ 64) × (l.behind + 4294967295 * count 64 l.r-iterator.left ≤ l.a + 274877906880) × (length l.out ≡ length l.initial.out)
    × Along l.initial.out l.at (lines_of l.w (rows l.n l.a (variables_in l.members)))
    (lines_of l.w (rows l.n l.behind (variables_in l.r-iterator.left))) l.out l.next
