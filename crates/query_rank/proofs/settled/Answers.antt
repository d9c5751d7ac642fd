-- `query_rank::settled` meets its contract.
-- Assumes nothing.
use borrow.Author.Tests.{not-true}
use Rattle.std.proofs.Common.{arith}
use Rattle.sets.specs.Words.{value}
use Rattle.query_rank.proofs.Bounds.{least_cost, key_bound, settled_short, settled-rank}
use Rattle.std.proofs.lemmas.Bool.{not_from_false}
use Rattle.query_rank.proofs.settled.Goals as goal

pub returns-then-not-perm_within : goal.returns-then-not-perm_within
returns-then-not-perm_within c =
    let n = c.args.node in
    λ _ carried _ _. settled_short c.args.job n.chosen n.free carried (value c.args.top) c.args.best _ c.perm_within.ensures
    (not-true _ (not_from_false _ c.if-not-perm_within.true))

pub returns : goal.returns
returns c e carried p r =
    let n = c.args.node in
    settled-rank c.args.job n.chosen n.free carried (value c.args.top) c.args.best _ _
    (key_bound c.args.job n.chosen n.free carried (value c.args.top) _ _
    (rw c.least-first.ensures (least_cost c.args.job.first 256 carried (value c.args.top) _ (omega arith) p))
    (rw (c.least-second.ensures, c.union.ensures) (least_cost c.args.job.second 64 n.chosen _ _ (omega arith) r)))
    c.no_worse.ensures e
