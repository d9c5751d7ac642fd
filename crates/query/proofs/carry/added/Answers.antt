-- `query::carry::added` meets its contract.
-- Assumes nothing.
use lib.Bits.{or_zero_r}
use mathlib.Core.Path.{sym}
use Rattle.model.specs.Tests.{pick}
use Rattle.query.proofs.carry.added.Goals as goal

pub returns-then-on : goal.returns-then-on
unfolding pick
returns-then-on c = rw c.if-on.true c.perm_union.ensures

pub returns : goal.returns
unfolding pick
returns c = rw c.if-on.false (sym (or_zero_r _))
