-- `image_reader::is_exclusion` meets its contract.
-- Assumes nothing.
use mathlib.Core.Path.{refl}
use borrow.Author.Rules.{rules}
use Rattle.image_words.proofs.Others.{no_exclusion}
use Rattle.image_reader.specs.Places.{is_exclusion, excludes}
use Rattle.image_reader.proofs.is_exclusion.Goals as goal

pub returns-in_default : goal.returns-in_default
unfolding is_exclusion
returns-in_default c = rw c.in_default.is refl

pub returns-in_default-matches : goal.returns-in_default-matches
unfolding is_exclusion excludes
returns-in_default-matches c = rw c.in-Some.is (search (rules, no_exclusion))

pub returns-in-Exclude : goal.returns-in-Exclude
unfolding is_exclusion excludes
returns-in-Exclude c = rw (c.in-Some.is, c.in-Exclude.is)
