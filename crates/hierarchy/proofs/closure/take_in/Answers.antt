-- `hierarchy::closure::take_in` meets its contract.
-- Assumes nothing.
use Rattle.model.specs.Tests.{pick}
use Rattle.model.specs.Policy.{taking}
use mathlib.Core.Path.{sym, ◌∙◌}
use Rattle.hierarchy.proofs.closure.take_in.Goals as goal

pub returns-then-has : goal.returns-then-has
unfolding taking pick
returns-then-has c = simp (sym c.has.ensures ∙ c.if-has.true)

pub returns : goal.returns
unfolding taking pick
returns c = simp (sym c.has.ensures ∙ c.if-has.false)
