-- `clauses_soft::soft::put_wanting` meets its contract.
-- Assumes nothing.
use borrow.Author.Rules.{rules}
use Rattle.clauses_soft.proofs.WantLaws.{want_nothing, want_false, want_true}
use Rattle.clauses_soft.proofs.soft.put_wanting.Goals as goal

pub returns-in-Any : goal.returns-in-Any
returns-in-Any c = rw c.in-Any.is (want_nothing _ _ _ _)

pub returns-in-Fewest : goal.returns-in-Fewest
returns-in-Fewest c = rw c.in-Fewest.is (search (rules, want_false))

pub returns-in-Most : goal.returns-in-Most
returns-in-Most c = rw c.in-Most.is (search (rules, want_true))
