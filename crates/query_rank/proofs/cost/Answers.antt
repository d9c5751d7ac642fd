-- `query_rank::cost` meets its contract.
-- Assumes nothing.
use Rattle.std.proofs.Common.{le_trans}
use Rattle.model_laws.proofs.Ranks.{count-le}
use Rattle.query_rank.proofs.Ranks.{cost_least}
use Rattle.query_rank.proofs.cost.Goals as goal

pub returns : goal.returns
returns g c =
    rw c.least.ensures (cost_least c.args.objective _ _ (le_trans (count-le g.S.Counted.top _) g.met.S.Counted.small) c.fewest.ensures)
