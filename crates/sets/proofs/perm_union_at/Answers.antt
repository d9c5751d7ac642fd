use mathlib.Core.Path.{refl, ap, sym, ◌∙◌}
use Rattle.model.specs.Sets.{union, union_at}
use Rattle.sets.specs.Words.{value, joined}
use Rattle.sets.proofs.Unions.{values_at, joins_start, joins_next, joins_end}
use Rattle.sets.proofs.perm_union_at.Goals as goal

pub loop-r-init : goal.loop-r-init
unfolding value joined
loop-r-init c =
    rw (c.into_iter-r-iterator.ensures.into_iter_gives, c.members-r-items.ensures)
    (joins_start _ _ _ refl c.ranges.roles.fits)

pub loop-r-preserved : goal.loop-r-preserved
loop-r-preserved c =
    let t = c.in-Some.ensures.steps in
    joins_next _ _ _ _ _ _ c.loop-r.invariant t.lowest t.rest _
    (c.perm_union-next.ensures ∙ ap (union (value c.loop-r.all)) (sym (values_at c.args.rows.now c.in-Some.r)))

pub returns : goal.returns
unfolding union_at
returns c = joins_end _ _ _ _ c.in-None.ensures.steps.0 c.loop-r.invariant
