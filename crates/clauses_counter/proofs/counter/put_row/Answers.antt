-- `clauses_counter::counter::put_row` meets its contract.
-- Assumes nothing.
use Rattle.clauses_counter.proofs.CounterLaws.{row_put}
use Rattle.clauses_counter.proofs.counter.put_row.Goals as goal

pub returns : goal.returns
returns c =
    row_put _ _ _ _ c.put_adding.ensures c.put_keeping-kept.ensures c.put_implies-first.ensures
