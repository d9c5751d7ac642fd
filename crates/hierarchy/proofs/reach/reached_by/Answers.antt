use mathlib.Core.Path.{refl, ap, ◌∙◌}
use Rattle.model.specs.Sets.{union, union_at}
use Rattle.sets.proofs.Unions.{joins_start, joins_next, joins_end}
use Rattle.hierarchy.proofs.reach.reached_by.Goals as goal

pub loop-k-init : goal.loop-k-init
loop-k-init c =
    rw (c.into_iter-k-iterator.ensures.into_iter_gives, c.members-k-items.ensures) (joins_start _ _ _ refl c.ranges.set.fits)

pub loop-k-preserved : goal.loop-k-preserved
loop-k-preserved c =
    let t = c.in-Some.ensures.steps in
    joins_next _ _ _ _ _ _ c.loop-k.invariant t.lowest t.rest _ (c.union-all.ensures ∙ ap (union c.loop-k.all) c.reach.ensures)

pub returns : goal.returns
unfolding union_at
returns c = joins_end _ _ _ _ c.in-None.ensures.steps.0 c.loop-k.invariant
