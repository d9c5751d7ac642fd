-- `tidy_words::count::count_table` meets its contract. The invariant: the words of the rows so far and of the rows to
-- come are all.
-- Assumes nothing.
use Rattle.std.proofs.Common.{◌≡◌, ℕ, ◌+◌, ◌*◌, ◌≤◌, map, length}
use Rattle.tidy_words.specs.Tables.{table_words}
use Rattle.tidy_words.proofs.count.count_table.Given as goal

abbrev pub invariant-loop-row : goal.invariant-loop-row
invariant-loop-row g l =
    (l.m ≤ 4294967295 * l.row-index) × (l.row-index ≤ 64)
    × ((word : ℕ → ℕ → ℕ) → l.m + length (table_words word g.S.Counted.top (map g.S.Counted.as_set l.rows) l.row-index)
    ≡ length (table_words word g.S.Counted.top (map g.S.Counted.as_set l.rows) 0))
