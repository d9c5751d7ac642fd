-- `query_rank::least` meets its contract.
-- Assumes nothing.
use Rattle.std.proofs.Common.{arith}
use Rattle.model_laws.proofs.Ranks.{count-le}
use Rattle.query_rank.proofs.least.Goals as goal

pub overflow_sub-result : goal.overflow_sub-result
overflow_sub-result g c =
    omega (arith, c.size.ensures, count-le g.S.Counted.top (g.S.Counted.as_set c.args.top), g.met.S.Counted.small)
