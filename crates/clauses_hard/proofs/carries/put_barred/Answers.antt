-- `clauses_hard::carries::put_barred` meets its contract.
-- Assumes nothing.
use borrow.Author.Rules.{rules}
use Rattle.clauses_hard.specs.Parts.{barred}
use Rattle.clauses_lines.proofs.LineLaws.{line-allowed, line-barred}
use Rattle.clauses_hard.proofs.carries.put_barred.Goals as goal

pub returns-then-has : goal.returns-then-has
returns-then-has c = unfold barred in search (rules, line-allowed)

pub returns : goal.returns
returns c =
    let p = rw c.role_variable.ensures at c.put_must_not.ensures in unfold barred in search (rules, p, line-barred)
