-- `sets::lowest_bit` meets its contract.
-- Assumes nothing.
use Rattle.sets.specs.Members.{lowest_of}
use Rattle.sets.proofs.Taken.{lowest-of}
use Rattle.sets.proofs.lowest_bit.Goals as goal

pub returns : goal.returns
unfolding lowest_of
returns c = lowest-of c.args.word c.requires c.ranges.word.fits
