-- `clauses_lines::lines::set_literal` meets its contract: a blank, the sign where there is one, and the digits.
-- Assumes nothing.
use Rattle.clauses_lines.proofs.LineLaws.{holds_set, fails_set}
use Rattle.clauses_lines.proofs.lines.set_literal.Goals as goal

pub returns-in-Holds : goal.returns-in-Holds
returns-in-Holds c = rw c.in-Holds.is (holds_set _ c.set_six.ensures c.set_all-digits.ensures)

pub returns-in-Fails : goal.returns-in-Fails
returns-in-Fails c = rw c.in-Fails.is (fails_set _ c.set_six-in-Fails.ensures c.set_all-digits-in-Fails.ensures)
