-- `image_reader::place_after` meets its contract: the test says which case of `place_after` holds.
-- Assumes nothing.
use borrow.Author.Rules.{rules}
use Rattle.image_reader.proofs.PlaceLaws.{place-stays, place_moves, place_fits}
use Rattle.image_reader.proofs.place_after.Goals as goal

pub returns-then-last-place : goal.returns-then-last-place
returns-then-last-place c = search (rules, place-stays)

pub overflow_add-result : goal.overflow_add-result
overflow_add-result c = search (rules, place_fits)

pub returns : goal.returns
returns c = search (rules, place_moves)
