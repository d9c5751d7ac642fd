-- `tidy_words::words::Writer::put_exclusions` meets its contract. The invariant:
-- the exclusions to come, written behind those so far, make the whole.
-- Assumes nothing.
use Rattle.tidy_words.proofs.Turns.{listed}
use Rattle.tidy_words.proofs.Writing.{Goes}
use Rattle.tidy_words.proofs.words.Writer.put_exclusions.Given as goal

abbrev pub invariant-loop-x : goal.invariant-loop-x
invariant-loop-x l = Goes l.initial.self (listed l.x-items 0) l.self (listed l.x-items l.x-index)
