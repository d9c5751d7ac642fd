-- `tables_exclusions::exclusions::joined` meets its contract.
-- Assumes nothing.
use borrow.Author.Rules.{rules}
use Rattle.model.specs.Policy.{joining}
use Rattle.image_words.specs.Bounds.{Small}
use Rattle.image_words.proofs.Others.{no_member}
use Rattle.tables_exclusions.proofs.exclusions.joined.Goals as goal

pub enum_known-e : goal.enum_known-e
unfolding joining Small
enum_known-e c = search rules

pub returns-in_default : goal.returns-in_default
unfolding joining Small
returns-in_default c = search (rules, no_member)

pub with-requires : goal.with-requires
unfolding joining Small
with-requires c = rw c.in-Member.is at c.requires

pub returns : goal.returns
unfolding joining Small
returns c = rw c.in-Member.is c.with.ensures
