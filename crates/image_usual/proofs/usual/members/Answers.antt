use Rattle.std.proofs.Common.{refl, arith}
use Rattle.image_usual.proofs.Joining.{joined-none, joined_on}
use Rattle.image_usual.proofs.usual.members.Goals as goal

pub returns-then-roles-gt64 : goal.returns-then-roles-gt64
returns-then-roles-gt64 c = joined-none

pub loop-place-init : goal.loop-place-init
loop-place-init c = (refl, joined-none)

pub loop-place-preserved : goal.loop-place-preserved
loop-place-preserved c = (
  omega (arith, c.past.ensures.place, c.loop-place.invariant.0),
  rw c.past.ensures.place (joined_on c.word-w.result c.loop-place.invariant.1 (omega (arith, c.loop-place-test.true))
      (rw c.loop-place.invariant.0 c.word-w.ensures) c.in-Some.ensures c.past.ensures.sum),
)
