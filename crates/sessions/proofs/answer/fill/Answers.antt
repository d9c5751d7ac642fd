-- `sessions::answer::fill` meets its contract.
-- Assumes nothing.
use native.Mathlib.Omega.{arith}
use borrow.Author.Rules.{rules}
use Rattle.sessions.proofs.Filled.{filled}
use Rattle.sessions.proofs.answer.fill.Goals as goal

pub returns : goal.returns
returns c =
    filled c.args.answer.now c.args.permissions c.args.roles _ _ c.requires (omega arith) (search rules) c.put_u64.ensures c.put_numbers.ensures
