-- `clauses_hard::carries::put_carried_one` meets its contract.
-- Assumes nothing.
use Rattle.clauses_lines.proofs.LineLaws.{line_more}
use Rattle.clauses_hard.proofs.carries.put_carried_one.Goals as goal

pub returns : goal.returns
returns c =
    line_more _ _ _ c.put_end.ensures c.put_roles-c.ensures (rw c.permission.ensures at c.put_literal-b.ensures) c.put_packed-a.ensures
