-- `ledger::bytes::put_line` meets its contract.
-- Assumes nothing.
use mathlib.Core.Path.{◌≡◌}
use native.Mathlib.Omega.{arith}
use lib.ListN.{length}
use borrow.Author.Rules.{rules}
use Rattle.model.specs.Line.{SESSIONS, line_size}
use Rattle.ledger.proofs.Places.{line-written}
use Rattle.ledger.proofs.bytes.put_line.Goals as goal

pub overflow_mul-at : goal.overflow_mul-at
unfolding line_size
overflow_mul-at c = omega arith

pub put_u64-requires : goal.put_u64-requires
unfolding line_size
put_u64-requires c = omega arith

pub overflow_add-at : goal.overflow_add-at
unfolding line_size
overflow_add-at c = omega arith

pub put_u64-requires-2 : goal.put_u64-requires-2
unfolding line_size
put_u64-requires-2 c = omega arith

pub overflow_add-at-2 : goal.overflow_add-at-2
unfolding line_size
overflow_add-at-2 c = omega arith

pub put_sessions-requires : goal.put_sessions-requires
unfolding line_size
put_sessions-requires c = omega arith

pub shape_of-ledger : goal.shape_of-ledger
unfolding line_size
shape_of-ledger c = search rules

pub returns : goal.returns
unfolding line_size
returns c =
    let n : length c.args.l.sessions ≡ SESSIONS = omega arith in
    let h = line-written SESSIONS c.args.user c.args.l c.args.ledger.now n c.requires in
    cc h
