-- `image_words::word::decode` meets its contract.
-- Assumes nothing.
use borrow.Author.Rules.{rules}
use borrow.Author.Tests.{ne_eqb}
use Rattle.model.specs.Tests.{pick}
use Rattle.model.specs.Image.{decode}
use Rattle.image_words.specs.Bounds.{Small}
use Rattle.image_words.proofs.word.decode.Goals as goal

pub overflow_cast-first : goal.overflow_cast-first
unfolding decode Small pick
overflow_cast-first c = search rules

pub overflow_cast-second : goal.overflow_cast-second
unfolding decode Small pick
overflow_cast-second c = search rules

pub overflow_cast-result : goal.overflow_cast-result
unfolding decode Small pick
overflow_cast-result c = search rules

pub exclusion_word-requires : goal.exclusion_word-requires
unfolding decode Small pick
exclusion_word-requires c = search rules

pub overflow_cast-result-in-7 : goal.overflow_cast-result-in-7
unfolding decode Small pick
overflow_cast-result-in-7 c = search rules

pub returns-in-2 : goal.returns-in-2
unfolding decode Small pick
returns-in-2 c = (rw c.in-2.is, search rules)

pub returns-in-3 : goal.returns-in-3
unfolding decode Small pick
returns-in-3 c = (rw c.in-3.is, search rules)

pub returns-in-4 : goal.returns-in-4
unfolding decode Small pick
returns-in-4 c = (rw c.in-4.is, search rules)

pub returns-in-5 : goal.returns-in-5
unfolding decode Small pick
returns-in-5 c = (rw c.in-5.is c.exclusion_word.ensures.0, c.exclusion_word.ensures.1)

pub returns-in-6 : goal.returns-in-6
unfolding decode Small pick
returns-in-6 c = (rw c.in-6.is, search rules)

pub returns-in-7 : goal.returns-in-7
unfolding decode Small pick
returns-in-7 c = (rw c.in-7.is, search rules)

pub returns-in-15 : goal.returns-in-15
unfolding decode Small pick
returns-in-15 c = (rw c.in-15.is, search rules)

pub returns-in_default : goal.returns-in_default
unfolding decode Small pick
returns-in_default c = search (rules, ne_eqb)
