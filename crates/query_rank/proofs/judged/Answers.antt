-- `query_rank::judged` meets its contract.
-- Assumes nothing.
use borrow.Author.Tests.{not-true, not-false}
use Rattle.sets.specs.Words.{value}
use Rattle.query_rank.proofs.Ranks.{judged_short, judged_worse, judged-best}
use Rattle.std.proofs.lemmas.Bool.{not_from_true}
use Rattle.std.proofs.lemmas.Bool.{not_from_false}
use Rattle.query_rank.proofs.judged.Goals as goal

pub returns-then-not-perm_within : goal.returns-then-not-perm_within
returns-then-not-perm_within c = judged_short c.args.job c.args.node.chosen (value c.args.node.carried) c.args.best _ c.perm_within.ensures
    (not-true _ (not_from_false _ c.if-not-perm_within.true))

pub returns-then-no_worse : goal.returns-then-no_worse
returns-then-no_worse c =
    judged_worse c.args.job c.args.node.chosen (value c.args.node.carried) c.args.best _ _ c.rank_of-next.ensures c.no_worse.ensures c.if-no_worse.true

pub returns : goal.returns
returns c =
    judged-best c.args.job c.args.node.chosen (value c.args.node.carried) c.args.best _ _ c.rank_of-next.ensures c.no_worse.ensures
    c.if-no_worse.false _ c.perm_within.ensures (not-false _ (not_from_true _ c.if-not-perm_within.false))
