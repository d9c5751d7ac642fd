-- `grant_table_words::transpose::transpose` meets its contract: the masks mark, and six exchanges transpose.
-- Assumes nothing.
use borrow.Author.Rules.{rules}
use Rattle.grant_table_words.proofs.Transposes.{marks_32, marks_16, marks_8, marks-4, marks-2, marks_1, transposed}
use Rattle.grant_table_words.proofs.transpose.transpose.Goals as goal

pub invariant_of-exchange-clause-marked : goal.invariant_of-exchange-clause-marked
invariant_of-exchange-clause-marked c = marks_32

pub invariant_of-exchange-2-clause-marked : goal.invariant_of-exchange-2-clause-marked
invariant_of-exchange-2-clause-marked c = marks_16

pub invariant_of-exchange-3-clause-marked : goal.invariant_of-exchange-3-clause-marked
invariant_of-exchange-3-clause-marked c = marks_8

pub invariant_of-exchange-4-clause-marked : goal.invariant_of-exchange-4-clause-marked
invariant_of-exchange-4-clause-marked c = marks-4

pub invariant_of-exchange-5-clause-marked : goal.invariant_of-exchange-5-clause-marked
invariant_of-exchange-5-clause-marked c = marks-2

pub invariant_of-exchange-6-clause-marked : goal.invariant_of-exchange-6-clause-marked
invariant_of-exchange-6-clause-marked c = marks_1

pub returns : goal.returns
returns c = search (rules, transposed)
