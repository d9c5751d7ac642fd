-- `tidy::whole::tidy` meets its contract.
-- Assumes nothing.
use Rattle.std.proofs.Common.{arith}
use Rattle.tidy.proofs.Calls.{writes_19, writes-done}
use Rattle.tidy.proofs.whole.tidy.Goals as goal

pub returns-then-out-words : goal.returns-then-out-words
returns-then-out-words c =
    rw c.into.ensures (writes_19 _ _ _ _ _ _ _ c.sort-sorted.ensures.0 _ c.count_words-words.ensures.1 _ c.if-out-words.true)

pub returns : goal.returns
returns c =
    let w = writes-done _ _ _ _ _ _ _ c.sort-sorted.ensures.0 _ c.count_words-words.ensures.1 _ _ c.if-out-words.false c.put_image.ensures in
    record { number = omega (arith, w.number, c.count_words-words.ensures.0); bytes = w.bytes }
