-- `clauses_hard::members::rest` meets its contract.
-- Assumes nothing.
use borrow.Author.Rules.{rules}
use Rattle.clauses_hard.proofs.MemberLaws.{rest-is}
use Rattle.clauses_hard.proofs.members.rest.Goals as goal

pub returns : goal.returns
returns c = search (rules, rest-is)
