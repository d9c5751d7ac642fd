-- `tidy_words::words::Writer::put_table` meets its contract. The invariant:
-- the rows to come, written behind those so far, make the whole.
-- Assumes nothing.
use Rattle.std.proofs.Common.{map}
use Rattle.tidy_words.specs.Tables.{word_by, table_words}
use Rattle.tidy_words.proofs.Writing.{Goes}
use Rattle.tidy_words.proofs.words.Writer.put_table.Given as goal

abbrev pub invariant-loop-i : goal.invariant-loop-i
invariant-loop-i g l =
    Goes l.initial.self (table_words (word_by l.first l.unit) g.S.Counted.top (map g.S.Counted.as_set l.rows) 0)
    l.self (table_words (word_by l.first l.unit) g.S.Counted.top (map g.S.Counted.as_set l.rows) l.i)
