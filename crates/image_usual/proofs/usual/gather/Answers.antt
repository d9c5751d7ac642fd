use Rattle.std.proofs.Common.{refl, arith}
use Rattle.image_usual.proofs.Runs.{gathers_none, gathers_on}
use Rattle.image_usual.proofs.usual.gather.Goals as goal

pub loop-place-init : goal.loop-place-init
loop-place-init c = (refl, gathers_none _ _ _ _ _ _ _)

pub loop-place-preserved : goal.loop-place-preserved
loop-place-preserved c =
    let e = c.turned-x.ensures in (
      omega (arith, c.past.ensures.place, c.loop-place.invariant.0),
      rw c.past.ensures.place (gathers_on c.word-w.result c.loop-place.invariant.1 (omega arith) (omega (arith, c.loop-place-test.true))
          (rw c.loop-place.invariant.0 c.word-w.ensures) (omega arith) (rw e at c.if-x-key.false) (rw e at c.if-roles-r.false)
          (rw e at c.with.ensures) c.past.ensures.sum),
    )
