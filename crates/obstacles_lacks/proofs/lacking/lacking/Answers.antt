-- `obstacles_lacks::lacking::lacking` meets its contract.
-- Assumes nothing.
use Rattle.obstacles_lacks.proofs.Lacks.{lacking_by}
use Rattle.obstacles_lacks.proofs.lacking.lacking.Goals as goal

pub returns : goal.returns
returns c m h = lacking_by m _ _ _ _ (c.carried_by.ensures m h) c.missing.ensures.least
