-- `sets::counted::ArrayU644Counted::below` meets its contract: word by word.
-- Assumes nothing.
use Rattle.std.proofs.Common.{rules}
use Rattle.sets.proofs.Powers.{words_below}
use Rattle.sets.proofs.counted.ArrayU644Counted.below.Goals as goal

pub returns : goal.returns
returns c =
    rw (c.below.ensures, c.below-2.ensures, c.below-3.ensures, c.below-4.ensures)
    (rw (c.saturating_sub.ensures, c.saturating_sub-2.ensures, c.saturating_sub-3.ensures)
    (words_below c.args.self c.args.n (search rules)))
