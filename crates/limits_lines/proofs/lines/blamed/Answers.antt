-- `limits_lines::lines::blamed` meets its contract.
-- Assumes nothing.
use borrow.Author.Tests.{eq-eqb, ne_eqb}
use Rattle.model.specs.Tests.{pick}
use Rattle.limits_lines.specs.Lines.{blamed}
use Rattle.limits_lines.proofs.lines.blamed.Goals as goal

pub returns-then-v-user : goal.returns-then-v-user
unfolding blamed pick
returns-then-v-user c = rw (c.from.ensures, eq-eqb _ _ c.if-v-user.true)

pub returns : goal.returns
unfolding blamed pick
returns c = simp (ne_eqb _ _ c.if-v-user.false)
