-- `tidy_words::words::Writer::put_set` meets its contract. The invariant: the members to come, written behind those so
-- far, make the whole.
-- Assumes nothing.
use Rattle.tidy_words.specs.Buffers.{set_words}
use Rattle.tidy_words.proofs.Writing.{Goes}
use Rattle.tidy_words.proofs.words.Writer.put_set.Given as goal

abbrev pub invariant-loop-k : goal.invariant-loop-k
invariant-loop-k l =
    Goes l.initial.self (set_words 64 l.first l.unit l.set) l.self (set_words 64 l.first l.unit l.k-iterator.left)
