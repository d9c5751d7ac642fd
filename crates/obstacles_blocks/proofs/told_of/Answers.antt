-- `obstacles_blocks::told_of` meets its contract.
-- Assumes nothing.
use Rattle.obstacles_blocks.proofs.Tells.{told_blocks}
use Rattle.obstacles_blocks.proofs.told_of.Goals as goal

pub returns : goal.returns
returns c l k h = told_blocks c.args.exclusion l k _ h
