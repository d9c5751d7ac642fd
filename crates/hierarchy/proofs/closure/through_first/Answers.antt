use Rattle.hierarchy.proofs.Closing.{map_to_none, row_taken, all_taken, passed_over}
use borrow.Author.Rules.{rules}
use Rattle.hierarchy.proofs.closure.through_first.Goals as goal

pub returns-then-other-eq0 : goal.returns-then-other-eq0
returns-then-other-eq0 c = search (rules, passed_over)

pub loop-row-init : goal.loop-row-init
loop-row-init c = map_to_none _ _

pub loop-row-preserved : goal.loop-row-preserved
loop-row-preserved c = row_taken _ _ _ _ _ _ c.loop-row.invariant c.loop-row-test.true c.take_in.ensures

pub returns : goal.returns
returns c = all_taken _ _ _ _ _ c.requires.2 c.loop-row-test.false c.loop-row.invariant
