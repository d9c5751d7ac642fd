use mathlib.Core.Path.{ap, ◌∙◌}
use Rattle.model.specs.Sets.{union_at}
use Rattle.sets.specs.Words.{values}
use Rattle.tables_rows.proofs.Carrying.{made_start, made_next, made_all}
use Rattle.tables_rows.proofs.carried.fill_carried.Goals as goal

pub loop-k-init : goal.loop-k-init
loop-k-init c =
    rw (c.into_iter-k-iterator.ensures.into_iter_gives, c.members-k-items.ensures, c.requires) (made_start _ _ _ c.ranges.wanted.fits)

pub loop-k-preserved : goal.loop-k-preserved
loop-k-preserved c =
    let t = c.in-Some.ensures.steps in
    made_next _ _ _ _ _ _ _ c.loop-k.invariant t.lowest t.rest _
    (c.perm_union_at.ensures ∙ ap (union_at (values c.args.grants.now.granted.now)) c.reach.ensures)

pub returns : goal.returns
returns c = made_all _ _ _ _ _ c.in-None.ensures.steps.0 c.loop-k.invariant
