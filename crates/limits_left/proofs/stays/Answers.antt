-- `limits_left::stays` meets its contract.
-- Assumes nothing.
use mathlib.Core.Path.{sym, ◌∙◌}
use borrow.Author.Tests.{eq-eqb}
use Rattle.limits_left.proofs.Leaving.{stays_none, stays_free, stays-under}
use Rattle.limits_left.proofs.stays.Goals as goal

pub returns-then-t-eq0 : goal.returns-then-t-eq0
returns-then-t-eq0 c =
    eq-eqb c.args.t 0 c.if-t-eq0.true ∙ stays_free _ _ _ _ (sym c.has.ensures ∙ c.if-has.true) c.if-t-eq0.true

pub returns-else-t-eq0 : goal.returns-else-t-eq0
returns-else-t-eq0 c = stays-under _ _ _ _ _ (sym c.has.ensures ∙ c.if-has.true) c.if-t-eq0.false c.of.ensures

pub returns-else-has : goal.returns-else-has
returns-else-has c = c.if-has.false ∙ stays_none _ _ _ _ (sym c.has.ensures ∙ c.if-has.false)
