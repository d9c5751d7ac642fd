-- `sets::with_if` meets its contract.
-- Assumes nothing.
use Rattle.model.specs.Tests.{pick}
use Rattle.sets.proofs.with_if.Goals as goal

pub returns-then-on : goal.returns-then-on
unfolding pick
returns-then-on c = rw c.if-on.true c.with.ensures

pub returns : goal.returns
unfolding pick
returns c = rw c.if-on.false
