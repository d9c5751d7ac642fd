-- `tidy_words::words::Writer::put_body` meets its contract: the head, three tables, and the exclusions with the limits.
-- Assumes nothing.
use Rattle.std.proofs.Common.{arith}
use Rattle.sets.specs.Words.{values}
use Rattle.tidy_words.proofs.Writing.{goes_start, goes_room, goes_next, goes_last, all_of, first_of, next_of}
use Rattle.tidy_words.proofs.Wholes.{head_first, groups_four, same_rows}
use Rattle.tidy_words.proofs.words.Writer.put_body.Goals as goal

pub put_word-requires : goal.put_word-requires
put_word-requires c =
    goes_room (goes_start c.args.self.now _ c.requires.1) (head_first _ _ _ _ _ _ c.head_word.ensures)

pub put_table-requires : goal.put_table-requires
put_table-requires c =
    let t = c.args.tables.now in
    let head = goes_next (goes_start c.args.self.now _ c.requires.1) (head_first _ _ _ _ _ _ c.head_word.ensures) c.put_word.ensures in
    let four = first_of (groups_four t.authorized t.granted t.below _ t.limits) in
    (c.requires.0.users, omega arith, omega arith, rw (same_rows t.authorized) c.requires.0.assigned_fits, goes_room head four)

pub put_table-requires-2 : goal.put_table-requires-2
unfolding values
put_table-requires-2 c =
    let t = c.args.tables.now in
    let head = goes_next (goes_start c.args.self.now _ c.requires.1) (head_first _ _ _ _ _ _ c.head_word.ensures) c.put_word.ensures in
    let a = goes_next head (first_of (groups_four t.authorized t.granted t.below _ t.limits)) c.put_table.ensures in
    (c.requires.0.roles, omega arith, omega arith, c.requires.0.granted_fits, goes_room a (next_of _ _))

pub put_table-requires-3 : goal.put_table-requires-3
put_table-requires-3 c =
    let t = c.args.tables.now in
    let head = goes_next (goes_start c.args.self.now _ c.requires.1) (head_first _ _ _ _ _ _ c.head_word.ensures) c.put_word.ensures in
    let a = goes_next head (first_of (groups_four t.authorized t.granted t.below _ t.limits)) c.put_table.ensures in
    let g = goes_next a (next_of _ _) c.put_table-2.ensures in
    (c.requires.0.roles, omega arith, omega arith, rw (same_rows t.below) c.requires.0.juniors_fits, goes_room g (next_of _ _))

pub put_rest-requires : goal.put_rest-requires
put_rest-requires c =
    let t = c.args.tables.now in
    let head = goes_next (goes_start c.args.self.now _ c.requires.1) (head_first _ _ _ _ _ _ c.head_word.ensures) c.put_word.ensures in
    let a = goes_next head (first_of (groups_four t.authorized t.granted t.below _ t.limits)) c.put_table.ensures in
    let g = goes_next a (next_of _ _) c.put_table-2.ensures in
    let j = goes_next g (next_of _ _) c.put_table-3.ensures in
    (c.requires.0.roles, c.requires.0.limits_fit, goes_room j (all_of _))

pub returns : goal.returns
returns c =
    let t = c.args.tables.now in
    let head = goes_next (goes_start c.args.self.now _ c.requires.1) (head_first _ _ _ _ _ _ c.head_word.ensures) c.put_word.ensures in
    let a = goes_next head (first_of (groups_four t.authorized t.granted t.below _ t.limits)) c.put_table.ensures in
    let g = goes_next a (next_of _ _) c.put_table-2.ensures in
    let j = goes_next g (next_of _ _) c.put_table-3.ensures in
    goes_last j c.put_rest.ensures
