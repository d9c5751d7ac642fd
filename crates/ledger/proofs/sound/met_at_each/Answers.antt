use mathlib.Core.Path.{refl, ◌∙◌}
use native.Mathlib.Omega.{arith}
use Rattle.model.specs.Line.{empty_session}
use Rattle.ledger.specs.Held.{met_at}
use Rattle.ledger.proofs.All.{all-next, all-stop, all_end}
use Rattle.ledger.proofs.sound.met_at_each.Goals as goal

pub loop-s-init : goal.loop-s-init
unfolding met_at
loop-s-init c = refl

pub returns-then-not-met_at : goal.returns-then-not-met_at
unfolding empty_session
returns-then-not-met_at c =
    all-stop _ empty_session _ c.loop-s.s-index (omega arith) c.met_at.ensures c.if-not-met_at.true ∙ c.loop-s.invariant

pub loop-s-preserved : goal.loop-s-preserved
unfolding empty_session
loop-s-preserved c =
    all-next _ empty_session _ c.loop-s.s-index (omega arith) c.met_at.ensures c.if-not-met_at.false ∙ c.loop-s.invariant

pub returns : goal.returns
returns c = all_end _ _ c.loop-s.s-index (omega arith) ∙ c.loop-s.invariant
