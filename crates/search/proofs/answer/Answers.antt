-- `search::answer` meets its contract.
-- Assumes nothing.
use borrow.Author.Tests.{ne_eqb}
use Rattle.model.specs.Tests.{pick}
use Rattle.search.specs.Answer.{answer_of}
use Rattle.search.proofs.answer.Goals as goal

pub returns-then-best-eq-NONE : goal.returns-then-best-eq-NONE
unfolding answer_of pick
returns-then-best-eq-NONE c = rw c.if-best-eq-NONE.true

pub returns : goal.returns
unfolding answer_of pick
returns c = rw (ne_eqb _ _ c.if-best-eq-NONE.false)
