-- `clauses_hard::sizes::hard_size` meets its contract.
-- Assumes nothing.
use borrow.Author.Rules.{rules}
use native.Mathlib.Omega.{arith}
use Rattle.clauses_hard.specs.Sizes.{hard_size}
use Rattle.clauses_hard.proofs.sizes.hard_size.Goals as goal

pub returns : goal.returns
returns c = unfold hard_size in (omega arith, search rules)
