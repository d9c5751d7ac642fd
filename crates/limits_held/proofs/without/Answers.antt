-- `limits_held::without` meets its contract: session k is emptied, or none is.
-- Assumes nothing.
use mathlib.Core.Path.{◌≡◌}
use native.Mathlib.Omega.{arith}
use lib.ListN.{length}
use borrow.Author.Rules.{rules}
use Rattle.model.specs.Tests.{pick}
use Rattle.model.specs.Line.{SESSIONS}
use Rattle.limits_held.proofs.Holding.{holding_emptied}
use Rattle.limits_held.proofs.without.Goals as goal

pub returns-then-own : goal.returns-then-own
unfolding pick
returns-then-own c r =
    let n : length c.args.sessions ≡ SESSIONS = search rules in
    rw c.if-own.true (holding_emptied r c.args.sessions c.args.k (omega arith))

pub returns : goal.returns
unfolding pick
returns c r = rw c.if-own.false
