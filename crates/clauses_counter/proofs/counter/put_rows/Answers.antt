use borrow.Author.Rules.{rules}
use Rattle.sets.proofs.Taken.{without_lt}
use Rattle.clauses_bytes.proofs.WritingLaws.{puts_as, along_starts, along_ends}
use Rattle.clauses_counter.proofs.CounterLaws.{rows_none, behind-next, rows_fit, rows_goes}
use Rattle.clauses_counter.proofs.counter.put_rows.Goals as goal

pub loop-r-init : goal.loop-r-init
loop-r-init c =
    rw (c.into_iter-r-iterator.ensures.into_iter_gives, c.members-r-items.ensures) (search (rules, along_starts, rows_fit))

pub loop-r-preserved : goal.loop-r-preserved
loop-r-preserved c =
    let t = c.in-Some.ensures.steps in
    let i = c.loop-r.invariant in (
      rw t.rest (without_lt 64 _ _ i.0 t.lowest.small),
      behind-next _ _ _ _ _ _ (search rules) i.0 t.lowest t.rest i.1,
      search rules,
      rows_goes _ _ _ _ _ _ t.lowest t.rest c.put_row-next.ensures i.3,
    )

pub returns : goal.returns
returns c =
    along_ends c.loop-r.invariant.3 (puts_as (rows_none _ _ _ _ c.in-None.ensures.steps.0) c.put_must_not.ensures)
