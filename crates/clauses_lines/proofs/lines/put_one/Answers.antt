-- `clauses_lines::lines::put_one` meets its contract: set, or put piece by piece.
-- Assumes nothing.
use Rattle.clauses_lines.proofs.LineLaws.{line-one}
use Rattle.clauses_lines.proofs.lines.put_one.Goals as goal

pub returns-then-has_room : goal.returns-then-has_room
returns-then-has_room c = line-one _ _ c.set_all.ensures.puts c.set_literal-b.ensures.puts c.set_packed-a.ensures.puts

pub returns : goal.returns
returns c = line-one _ _ c.put_end.ensures c.put_literal-b.ensures c.put_packed-a.ensures
