-- `query::carriers::mark_word` meets its contract. The loop's invariant: role r has joined at the bits before those to
-- come.
-- Assumes nothing.
use Rattle.query.proofs.Marks.{Marks}
use Rattle.query.proofs.carriers.mark_word.Given as goal

abbrev pub invariant-loop-bit : goal.invariant-loop-bit
invariant-loop-bit l = Marks l.place l.word l.r.0 l.initial.table l.bit-iterator.left l.table
