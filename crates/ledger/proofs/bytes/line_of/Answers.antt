-- `ledger::bytes::line_of` meets its contract.
-- Assumes nothing.
use native.Mathlib.Omega.{arith}
use Rattle.model.specs.Line.{SESSIONS, line_size}
use Rattle.ledger.proofs.Places.{line_read}
use Rattle.ledger.proofs.bytes.line_of.Goals as goal

pub overflow_mul-at : goal.overflow_mul-at
unfolding line_size
overflow_mul-at c = omega arith

pub overflow_add-at : goal.overflow_add-at
unfolding line_size
overflow_add-at c = omega arith

pub sessions_at-sessions-requires : goal.sessions_at-sessions-requires
unfolding line_size
sessions_at-sessions-requires c = omega arith

pub get_u64-requires : goal.get_u64-requires
unfolding line_size
get_u64-requires c = omega arith

pub overflow_add-at-2 : goal.overflow_add-at-2
unfolding line_size
overflow_add-at-2 c = omega arith

pub get_u64-requires-2 : goal.get_u64-requires-2
unfolding line_size
get_u64-requires-2 c = omega arith

pub returns : goal.returns
unfolding line_size
returns c =
    let h = line_read SESSIONS c.args.user c.args.ledger.now in
    cc h
