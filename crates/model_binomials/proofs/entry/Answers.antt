-- `model_binomials::entry` meets its contract: the place is in the table, and the table's rule gives what stands there.
-- Assumes nothing.
use Rattle.model_binomials.proofs.Entries.{entries}
use Rattle.model_binomials.proofs.Rule.{entry-is}
use Rattle.model_binomials.proofs.entry.Goals as goal

pub returns : goal.returns
unfolding entries
returns c = entry-is c.args.m c.args.k c.requires.0 c.requires.1
