-- `clauses_counter::counter::put_counter` meets its contract.
-- Assumes nothing.
use borrow.Author.Rules.{rules}
use Rattle.clauses_counter.proofs.CounterLaws.{counter_none, counter_put}
use Rattle.clauses_counter.proofs.counter.put_counter.Goals as goal

pub returns-then-members-eq0 : goal.returns-then-members-eq0
returns-then-members-eq0 c = search (rules, counter_none)

pub returns : goal.returns
returns c = search (rules, counter_put)
