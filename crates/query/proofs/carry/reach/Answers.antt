use Rattle.std.proofs.Common.{arith, length-set, refl}
use Rattle.sets.specs.Words.{value}
use Rattle.query.proofs.Reach.{reached_none, reached-next, reached-all}
use Rattle.query.proofs.carry.reach.Goals as goal

pub loop-k-init : goal.loop-k-init
loop-k-init c = (refl, reached_none _ _ _ _)

pub loop-k-preserved : goal.loop-k-preserved
loop-k-preserved c = (
  simp length-set c.loop-k.invariant.0,
  reached-next _ _ _ (value c.loop-k.all) c.loop-k.k c.added-next.result c.has-on.result c.loop-k.invariant.0 (omega arith) (omega arith)
      c.has-on.ensures c.added-next.ensures c.loop-k.invariant.1,
)

pub returns : goal.returns
returns c = reached-all _ _ _ (value c.loop-k.all) c.loop-k.k (omega arith) c.loop-k.invariant.1
