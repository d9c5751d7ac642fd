-- A walk over the members of a set takes one more of them at each step.
-- Assumes nothing.
use mathlib.Core.Path.{ap}
use Rattle.std.proofs.Common.{◌<◌}
use native.Mathlib.Omega.{arith}
use Rattle.model.specs.Sets.{count}
use Rattle.sets.proofs.Taken.{count-without}
use Rattle.sets.proofs.BitsIterator.next.Goals as goal

pub returns-clause-goes : goal.returns-clause-goes
returns-clause-goes c =
    let low = c.lowest_bit-k.ensures in
    let fewer : count 64 c.without_bit-self.result < count 64 c.args.self.now.left =
    omega (arith, ap (count 64) c.without_bit-self.ensures, count-without 64 _ _ (omega arith) low.small low.member) in
    record { on = λ _. (tt, tt, fewer); keeps = tt; rests = λ _. tt }
