-- `tidy_words::count::count_exclusions` meets its contract. The invariant: the words of the exclusions so far and of
-- those to come are all.
-- Assumes nothing.
use Rattle.std.proofs.Common.{◌≡◌, ◌+◌, ◌*◌, ◌≤◌, length}
use Rattle.tidy_words.proofs.Turns.{listed}
use Rattle.tidy_words.proofs.count.count_exclusions.Given as goal

abbrev pub invariant-loop-x : goal.invariant-loop-x
invariant-loop-x l =
    (l.m ≤ 4294967296 * l.x-index) × (l.x-index ≤ 32) × (l.m + length (listed l.x-items l.x-index) ≡ length (listed l.x-items 0))
