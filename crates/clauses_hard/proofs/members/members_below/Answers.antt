-- `clauses_hard::members::members_below` meets its contract.
-- Assumes nothing.
use borrow.Author.Rules.{rules}
use Rattle.clauses_hard.proofs.MemberLaws.{low_count}
use Rattle.clauses_hard.proofs.members.members_below.Goals as goal

pub returns : goal.returns
returns c = search (rules, low_count)
