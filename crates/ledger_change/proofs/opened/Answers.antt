-- `ledger_change::opened` meets its contract. A session's bit and the open bits make no number beyond 64 bits.
-- Assumes nothing.
use native.Mathlib.Omega.{arith}
use lib.Pow.{pow-lt}
use borrow.Author.Rules.{rules}
use Rattle.model.specs.Line.{SESSIONS, opening}
use Rattle.ledger_change.proofs.opened.Goals as goal

pub overflow_add-result : goal.overflow_add-result
overflow_add-result c =
    let h = pow-lt {i = c.args.k} {j = SESSIONS} (search rules) in
    omega (arith, h)

pub returns : goal.returns
unfolding opening
returns c = cc
