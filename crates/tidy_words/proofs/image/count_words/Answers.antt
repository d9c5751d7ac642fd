-- `tidy_words::image::count_words` meets its contract.
-- Assumes nothing.
use Rattle.std.proofs.Common.{arith}
use Rattle.sets.specs.Words.{values}
use Rattle.tidy_words.proofs.Wholes.{same_rows, words_count}
use Rattle.tidy_words.proofs.image.count_words.Goals as goal

pub count_table-a-requires : goal.count_table-a-requires
count_table-a-requires c = (c.requires.users, rw (same_rows c.args.tables.now.authorized) c.requires.assigned_fits)

pub count_table-j-requires : goal.count_table-j-requires
count_table-j-requires c = (c.requires.roles, rw (same_rows c.args.tables.now.below) c.requires.juniors_fits)

pub count_table-g-requires : goal.count_table-g-requires
unfolding values
count_table-g-requires c = (c.requires.roles, c.requires.granted_fits)

pub returns : goal.returns
unfolding values
returns c =
    let t = c.args.tables.now in
    let a = rw (same_rows t.authorized) at c.count_table-a.ensures in
    let j = rw (same_rows t.below) at c.count_table-j.ensures in (
      omega arith,
      words_count _ _ _ _ _ _ _ _ _ _ _ a.1 c.count_table-g.ensures.1 j.1 c.count_exclusions-x.ensures.1 c.count_limits-l.ensures.1,
    )
