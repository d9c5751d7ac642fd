use native.Mathlib.Omega.{arith}
use lib.ListN.{length-set}
use Rattle.model.specs.Sets.{has}
use Rattle.model_laws.proofs.SetLaws.{one-most}
use Rattle.limits_counts.proofs.Planes.{carried_next, carried_out, unchanged}
use Rattle.limits_counts.proofs.Counts.with.Goals as goal

pub returns-then-word-eq0 : goal.returns-then-word-eq0
returns-then-word-eq0 c r h = unchanged _ _ r c.if-word-eq0.true

pub loop-plane-init : goal.loop-plane-init
loop-plane-init c = (omega arith, λ r. omega arith)

pub loop-plane-preserved : goal.loop-plane-preserved
loop-plane-preserved c =
    (simp length-set c.loop-plane.invariant.0, λ r. carried_next _ c.loop-plane.plane-index _ _ r (omega arith) (c.loop-plane.invariant.1 r))

pub returns : goal.returns
returns c r h =
    carried_out _ c.loop-plane.plane-index _ _ r (omega arith) (omega (arith, h, one-most (has c.args.word r))) (c.loop-plane.invariant.1 r)
