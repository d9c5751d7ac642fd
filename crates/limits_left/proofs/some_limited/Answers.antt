use mathlib.Core.Path.{refl}
use mathlib.Core.Bool.{true, false}
use Rattle.model_laws.proofs.Bools.{not_both}
use Rattle.limits_left.proofs.Leaving.{walked_none, walked_next, walked_end, one-limited}
use Rattle.limits_left.proofs.some_limited.Goals as goal

pub loop-r-init : goal.loop-r-init
loop-r-init c = rw (c.into_iter-r-iterator.ensures.into_iter_gives, c.members-r-items.ensures) (walked_none _ _ c.ranges.set.fits)

pub returns-then-limits-r-ne0 : goal.returns-then-limits-r-ne0
returns-then-limits-r-ne0 c = (λ e. one-limited _ _ c.if-limits-r-ne0.true, λ e. not_both true refl e)

pub loop-r-preserved : goal.loop-r-preserved
loop-r-preserved c =
    let t = c.in-Some.ensures.steps in
    walked_next _ _ _ _ _ c.loop-r.invariant t.lowest t.rest c.if-limits-r-ne0.false

pub returns : goal.returns
returns c = (λ e. not_both false e refl, λ e. walked_end _ _ c.loop-r.r-iterator.left c.loop-r.invariant c.in-None.ensures.steps.0)
