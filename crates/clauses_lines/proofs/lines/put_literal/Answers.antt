-- `clauses_lines::lines::put_literal` meets its contract: set, or counted, or put byte by byte.
-- Assumes nothing.
use Rattle.clauses_lines.proofs.LineLaws.{holds_put, fails_put, literal_far}
use Rattle.clauses_lines.proofs.lines.put_literal.Goals as goal

pub returns-then-is_full : goal.returns-then-is_full
returns-then-is_full c =
    let f = c.is_full.ensures c.if-is_full.true in
    literal_far _ _ f.0 f.1 _ _ c.width.ensures.0 c.width.ensures.1

pub returns-in-Holds : goal.returns-in-Holds
returns-in-Holds c = rw c.in-Holds.is (holds_put _ c.put_long.ensures c.put_all-digits.ensures)

pub returns-in-Fails : goal.returns-in-Fails
returns-in-Fails c = rw c.in-Fails.is (fails_put _ c.put_long-in-Fails.ensures c.put_all-digits-in-Fails.ensures)
