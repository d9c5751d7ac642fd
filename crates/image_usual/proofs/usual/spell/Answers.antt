-- `image_usual::usual::spell` meets its contract.
-- Assumes nothing.
use Rattle.std.proofs.Common.{[], refl, arith}
use Rattle.image_usual.specs.Granting.{nothing_none}
use Rattle.image_usual.proofs.usual.spell.Goals as goal

pub returns : goal.returns
returns c =
    let led = c.gather-all.ensures c.args.h c.args.assigned.now in
    let l = c.size.ensures in (
      omega (arith, (led [] refl c.if-h-u.false c.told-assigned refl (omega arith) _ nothing_none []).passed.onward, c.if-all-at.false),
      λ juniors. led juniors refl c.if-h-u.false c.told-assigned refl (omega arith),
    )
