-- `query_rank::rank_of` meets its contract.
-- Assumes nothing.
use borrow.Author.Rules.{rules}
use Rattle.sets.specs.Words.{value}
use Rattle.query_rank.proofs.Numbers.{key_standing}
use Rattle.query_rank.proofs.Ranks.{key_joins}
use Rattle.query_rank.proofs.rank_of.Goals as goal

pub returns : goal.returns
returns c m n h k =
    rw (← key_standing c.args.job.first c.args.job.second m n h k (value c.args.carried) c.args.chosen) (search (rules, key_joins))
