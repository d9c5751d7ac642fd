-- `obstacles_lacks::roles::carriers_in` meets its contract.
-- Assumes nothing.
use Rattle.obstacles_lacks.proofs.Carriers.{carriers_are}
use Rattle.obstacles_lacks.proofs.roles.carriers_in.Goals as goal

pub returns : goal.returns
returns c m h =
    carriers_are m _ _ c.ranges.set.fits h _ _ _ c.holders.ensures c.inter.ensures
