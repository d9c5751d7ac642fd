-- `clauses_lines::lines::put_end` meets its contract: set, or counted, or put byte by byte.
-- Assumes nothing.
use Rattle.clauses_lines.proofs.LineLaws.{end_far}
use Rattle.clauses_lines.proofs.lines.put_end.Goals as goal

pub returns-then-is_full : goal.returns-then-is_full
returns-then-is_full c =
    let f = c.is_full.ensures c.if-is_full.true in
    end_far _ _ f.0 f.1
