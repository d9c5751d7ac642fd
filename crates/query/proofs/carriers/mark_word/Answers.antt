use Rattle.query.proofs.Marks.{marks-start, marks-next, marks_end}
use Rattle.query.proofs.carriers.mark_word.Goals as goal

pub loop-bit-init : goal.loop-bit-init
loop-bit-init c =
    rw (c.into_iter-bit-iterator.ensures.into_iter_gives, c.members-bit-items.ensures) (marks-start _ _ _ _ c.told-table)

pub loop-bit-preserved : goal.loop-bit-preserved
loop-bit-preserved c =
    let t = c.in-Some.ensures.steps in
    marks-next _ _ _ _ _ _ _ c.loop-bit.table c.loop-bit.invariant t.lowest t.rest c.requires.0 _ _ c.permission_at-p.ensures c.with.ensures

pub returns : goal.returns
returns c = marks_end _ _ _ _ _ _ c.in-None.ensures.steps.0 c.loop-bit.invariant
