use mathlib.Core.Path.{refl, ◌∙◌}
use native.Mathlib.Omega.{arith}
use Rattle.limits_left.proofs.Leaving.{any_next, any_end}
use Rattle.limits_left.proofs.has_limits.Goals as goal

pub loop-t-init : goal.loop-t-init
loop-t-init c = refl

pub loop-t-preserved : goal.loop-t-preserved
loop-t-preserved c = any_next c.args.limits.now c.loop-t.found c.loop-t.t-index (omega arith) ∙ c.loop-t.invariant

pub returns : goal.returns
returns c = any_end c.args.limits.now c.loop-t.found c.loop-t.t-index (omega arith) ∙ c.loop-t.invariant
