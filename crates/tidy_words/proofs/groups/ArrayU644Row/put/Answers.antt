-- `tidy_words::groups::ArrayU644Row::put` meets its contract. The words of a row are four runs, one for each of its
-- machine words.
-- Assumes nothing.
use Rattle.std.proofs.Common.{arith, rules}
use Rattle.tidy_words.proofs.Writing.{goes_start, goes_room, goes_next, goes_last, first_of, next_of, all_of}
use Rattle.tidy_words.proofs.Members.{words_four}
use Rattle.tidy_words.proofs.groups.ArrayU644Row.put.Goals as goal

pub put_set-requires : goal.put_set-requires
put_set-requires c =
    let four = first_of (words_four c.args.self (search rules) c.args.first c.args.unit) in
    (goes_room (goes_start c.args.out.now _ c.requires.1) four, omega arith)

pub put_set-requires-2 : goal.put_set-requires-2
put_set-requires-2 c =
    let four = first_of (words_four c.args.self (search rules) c.args.first c.args.unit) in
    (goes_room (goes_next (goes_start c.args.out.now _ c.requires.1) four c.put_set.ensures) (next_of _ _), omega arith)

pub put_set-requires-3 : goal.put_set-requires-3
put_set-requires-3 c =
    let four = first_of (words_four c.args.self (search rules) c.args.first c.args.unit) in (
      goes_room (goes_next (goes_next (goes_start c.args.out.now _ c.requires.1) four c.put_set.ensures) (next_of _ _) c.put_set-2.ensures) (next_of _ _),
      omega arith,
    )

pub put_set-requires-4 : goal.put_set-requires-4
put_set-requires-4 c =
    let four = first_of (words_four c.args.self (search rules) c.args.first c.args.unit) in (
      goes_room (goes_next (goes_next (goes_next (goes_start c.args.out.now _ c.requires.1) four c.put_set.ensures) (next_of _ _)
          c.put_set-2.ensures) (next_of _ _) c.put_set-3.ensures) (all_of _),
      omega arith,
    )

pub returns : goal.returns
returns c =
    let four = first_of (words_four c.args.self (search rules) c.args.first c.args.unit) in
    let two = goes_next (goes_next (goes_start c.args.out.now _ c.requires.1) four c.put_set.ensures) (next_of _ _) c.put_set-2.ensures in
    goes_last (goes_next two (next_of _ _) c.put_set-3.ensures) c.put_set-4.ensures
