use Rattle.std.proofs.Common.{refl, rules}
use Rattle.sets.specs.Words.{value}
use Rattle.sets.proofs.Machine.{value_lt}
use Rattle.query.specs.Carry.{rows_of}
use Rattle.query.proofs.Marks.{joined-start, joined-next, joined_end, named-of}
use Rattle.query.proofs.carriers.join_carriers.Goals as goal

pub loop-k-init : goal.loop-k-init
loop-k-init c = rw (c.into_iter-k-iterator.ensures.into_iter_gives, c.members-k-items.ensures, c.requires) (joined-start _ _ _)

pub loop-k-preserved : goal.loop-k-preserved
loop-k-preserved c =
    let t = c.in-Some.ensures.steps in
    joined-next _ _ _ _ _ _ c.loop-k.table _ _ c.loop-k.invariant t.lowest.member t.rest refl c.mark_row.ensures

pub returns : goal.returns
returns c =
    let t = joined_end (rows_of c.args.rows.now) (value c.args.wanted) c.args.set _ _ c.in-None.ensures.steps.0
    (value_lt c.args.wanted (search rules)) c.loop-k.invariant in
    (t, λ p u range carry. named-of p u (rows_of c.args.rows.now) c.loop-k.table (value c.args.wanted) c.args.set range carry t)
