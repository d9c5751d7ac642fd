-- `sets::counted::U64Counted::below` meets its contract. A number of 64 bits is below every higher power of two.
-- Assumes nothing.
use borrow.Author.Tests.{le-leb}
use Rattle.sets.proofs.Powers.{word_below}
use Rattle.sets.proofs.counted.U64Counted.below.Goals as goal

pub returns-then-n-ge64 : goal.returns-then-n-ge64
returns-then-n-ge64 c = rw (le-leb 64 c.args.n c.if-n-ge64.true, word_below c.args.self c.args.n c.ranges.self.fits c.if-n-ge64.true)
