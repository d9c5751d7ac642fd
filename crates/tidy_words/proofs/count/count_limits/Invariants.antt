-- `tidy_words::count::count_limits` meets its contract. The invariant: the words of the roles so far and of the roles
-- to come are all.
-- Assumes nothing.
use Rattle.std.proofs.Common.{◌≡◌, ◌+◌, ◌≤◌, length}
use Rattle.tidy_words.specs.Tables.{limit_words}
use Rattle.tidy_words.proofs.count.count_limits.Given as goal

abbrev pub invariant-loop-t : goal.invariant-loop-t
invariant-loop-t l = (l.m ≤ l.t-index) × (l.t-index ≤ 64) × (l.m + length (limit_words l.limits l.t-index) ≡ length (limit_words l.limits 0))
