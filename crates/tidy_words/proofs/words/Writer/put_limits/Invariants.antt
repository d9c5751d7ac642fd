-- `tidy_words::words::Writer::put_limits` meets its contract. The invariant:
-- the roles to come, written behind those so far, make the whole.
-- Assumes nothing.
use Rattle.tidy_words.specs.Tables.{limit_words}
use Rattle.tidy_words.proofs.Writing.{Goes}
use Rattle.tidy_words.proofs.words.Writer.put_limits.Given as goal

abbrev pub invariant-loop-r : goal.invariant-loop-r
invariant-loop-r l =
    Goes l.initial.self (limit_words l.limits 0) l.self (limit_words l.limits l.r)
