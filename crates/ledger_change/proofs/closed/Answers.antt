-- `ledger_change::closed` meets its contract. An open session's bit is part of the open bits.
-- Assumes nothing.
use native.Mathlib.Omega.{arith}
use Rattle.model.specs.Line.{empty_session, closing}
use Rattle.ledger_change.proofs.Sessions.{open_le}
use Rattle.ledger_change.proofs.closed.Goals as goal

pub overflow_sub-next : goal.overflow_sub-next
overflow_sub-next c = let h = open_le c.args.l c.args.k c.requires.1 in omega (arith, h)

pub returns : goal.returns
unfolding closing empty_session
returns c = cc
