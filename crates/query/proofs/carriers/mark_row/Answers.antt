use native.Mathlib.Omega.{arith}
use borrow.Author.Rules.{rules}
use Rattle.query.proofs.Marks.{row-start, row_next, row_end}
use Rattle.query.proofs.carriers.mark_row.Goals as goal

pub loop-place-init : goal.loop-place-init
loop-place-init c = (omega arith, row-start _ _ _ c.told-table)

pub loop-place-preserved : goal.loop-place-preserved
loop-place-preserved c =
    (omega arith, row_next _ _ _ _ _ _ _ c.loop-place.invariant.1 c.inter-word.ensures c.mark_word.ensures)

pub returns : goal.returns
returns c = row_end _ _ (search rules) (search rules) _ _ _ _ c.loop-place.invariant.0 c.loop-place-test.false c.loop-place.invariant.1
