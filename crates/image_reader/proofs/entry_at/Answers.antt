-- `image_reader::entry_at` meets its contract: each test says which case of `found_at` holds.
-- Assumes nothing.
use borrow.Author.Rules.{rules}
use Rattle.image_reader.proofs.PlaceLaws.{before-first, behind_last, word_found, word_within}
use Rattle.image_reader.proofs.entry_at.Goals as goal

pub returns-then-place-lt1 : goal.returns-then-place-lt1
returns-then-place-lt1 c = search (rules, before-first)

pub returns-then-last-place : goal.returns-then-last-place
returns-then-last-place c = search (rules, behind_last)

pub word_at-requires : goal.word_at-requires
word_at-requires c = search (rules, word_within)

pub returns : goal.returns
returns c = search (rules, word_found)
