-- `image_usual::usual::pairs` meets its contract.
-- Assumes nothing.
use Rattle.std.proofs.Common.{refl, sym, arith}
use Rattle.image_usual.proofs.Runs.{mapped, filled_one}
use Rattle.image_usual.proofs.usual.pairs.Goals as goal

pub returns-then-orders : goal.returns-then-orders
returns-then-orders c =
    let q = c.orders.ensures.0 c.if-orders.true in (
      omega (arith, c.past.ensures.place),
      λ step un granted. rw c.past.ensures.place
          (filled_one c.args.w c.requires.0 c.requires.1 (q.0 c.args.assigned.now) (sym (q.1 step un granted)) c.past.ensures.sum),
    )

pub returns : goal.returns
returns c =
    rw (c.orders.ensures.1 c.if-orders.false) (mapped c.spell.result _ _ _ _ (λ k. (k, refl)) (λ run k. (k.0, k.1 c.args.juniors.now)) c.spell.ensures)
