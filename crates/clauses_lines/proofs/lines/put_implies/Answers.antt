-- `clauses_lines::lines::put_implies` meets its contract: set, or counted, or put piece by piece.
-- Assumes nothing.
use Rattle.clauses_lines.proofs.LineLaws.{line-two, two_far}
use Rattle.clauses_lines.proofs.lines.put_implies.Goals as goal

pub returns-then-has_room : goal.returns-then-has_room
returns-then-has_room c =
    line-two _ _ _ c.set_all.ensures.puts c.set_literal-c.ensures.puts c.set_literal-b.ensures.puts c.set_packed-a.ensures.puts

pub returns-then-is_full : goal.returns-then-is_full
returns-then-is_full c =
    let f = c.is_full.ensures c.if-is_full.true in
    let p = c.packed_width.ensures in
    let a = c.width.ensures in
    let b = c.width-then-is_full.ensures in
    two_far _ _ f.0 f.1 _ _ _ _ _ _ p.0 p.1 a.0 a.1 b.0 b.1

pub returns : goal.returns
returns c =
    line-two _ _ _ c.put_end.ensures c.put_literal-c.ensures c.put_literal-b.ensures c.put_packed-a.ensures
