use mathlib.Core.Path.{ap, ◌∙◌}
use native.Mathlib.Omega.{arith}
use Rattle.model.specs.Tests.{all}
use Rattle.ledger.specs.Held.{few_in}
use Rattle.ledger.proofs.All.{all-next, all-stop, all_end}
use Rattle.ledger.proofs.ByHistory.{few}
use Rattle.ledger.proofs.plainly.few_in.Goals as goal

pub loop-x-init : goal.loop-x-init
unfolding few_in
loop-x-init c = ap (all (few c.args.set)) c.listed-x-items.ensures

pub returns-then-not-fewer : goal.returns-then-not-fewer
returns-then-not-fewer c = all-stop _ _ _ c.loop-x.x-index (omega arith) c.fewer.ensures c.if-not-fewer.true ∙ c.loop-x.invariant

pub loop-x-preserved : goal.loop-x-preserved
loop-x-preserved c = all-next _ _ _ c.loop-x.x-index (omega arith) c.fewer.ensures c.if-not-fewer.false ∙ c.loop-x.invariant

pub returns : goal.returns
returns c = all_end _ _ c.loop-x.x-index (omega arith) ∙ c.loop-x.invariant
