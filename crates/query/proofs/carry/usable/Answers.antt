use Rattle.query.proofs.Walks.{walk_starts, walk-next, walk_ends}
use Rattle.query.proofs.carry.usable.Goals as goal

pub loop-k-init : goal.loop-k-init
loop-k-init c = rw (c.into_iter-k-iterator.ensures.into_iter_gives, c.members-k-items.ensures) (walk_starts _ _)

pub loop-k-preserved : goal.loop-k-preserved
loop-k-preserved c =
    let t = c.in-Some.ensures.steps in
    rw (t.rest, c.with_if-next.ensures, c.perm_within.ensures) (walk-next _ _ _ c.loop-k.found _ t.lowest.member c.loop-k.invariant)

pub returns : goal.returns
returns c = walk_ends _ _ _ _ c.in-None.ensures.steps.0 c.loop-k.invariant
