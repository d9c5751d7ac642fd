-- `clauses_hard::carries::put_absent` meets its contract.
-- Assumes nothing.
use borrow.Author.Rules.{rules}
use Rattle.clauses_hard.specs.Parts.{upper}
use Rattle.clauses_lines.proofs.LineLaws.{line-allowed, line-barred}
use Rattle.clauses_hard.proofs.carries.put_absent.Goals as goal

pub returns-then-perm_has : goal.returns-then-perm_has
returns-then-perm_has c = unfold upper in search (rules, line-allowed)

pub returns : goal.returns
returns c =
    let p = rw c.permission.ensures at c.put_must_not.ensures in unfold upper in search (rules, p, line-barred)
