-- `clauses_lines::lines::put_both_imply` meets its contract: set, or counted, or put piece by piece.
-- Assumes nothing.
use Rattle.clauses_lines.proofs.LineLaws.{line_three, three_far}
use Rattle.clauses_lines.proofs.lines.put_both_imply.Goals as goal

pub returns-then-has_room : goal.returns-then-has_room
returns-then-has_room c =
    line_three _ _ _ _ c.set_all.ensures.puts c.set_literal-d.ensures.puts c.set_literal-c.ensures.puts c.set_literal-b.ensures.puts
    c.set_packed-a.ensures.puts

pub returns-then-is_full : goal.returns-then-is_full
returns-then-is_full c =
    let f = c.is_full.ensures c.if-is_full.true in
    let p = c.packed_width.ensures in
    let a = c.width.ensures in
    let b = c.width-then-is_full.ensures in
    let d = c.width-then-is_full-2.ensures in
    three_far _ _ f.0 f.1 _ _ _ _ _ _ p.0 p.1 a.0 a.1 b.0 b.1 _ _ d.0 d.1

pub returns : goal.returns
returns c =
    line_three _ _ _ _ c.put_end.ensures c.put_literal-d.ensures c.put_literal-c.ensures c.put_literal-b.ensures c.put_packed-a.ensures
