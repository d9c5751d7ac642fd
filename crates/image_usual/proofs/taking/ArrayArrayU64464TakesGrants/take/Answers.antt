-- The permissions granted to each role take a grant in.
-- Assumes nothing.
use Rattle.model.specs.Policy.{granting}
use Rattle.image_usual.proofs.taking.ArrayArrayU64464TakesGrants.take.Goals as goal

pub returns : goal.returns
unfolding granting
returns c = c.perm_put.ensures
