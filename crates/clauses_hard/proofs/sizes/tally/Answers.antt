-- `clauses_hard::sizes::tally` meets its contract.
-- Assumes nothing.
use borrow.Author.Rules.{rules}
use native.Mathlib.Omega.{arith}
use Rattle.clauses_hard.proofs.SizeLaws.{tally_none, tally_some, rows-small}
use Rattle.clauses_hard.proofs.sizes.tally.Goals as goal

pub returns-then-m-lt1 : goal.returns-then-m-lt1
returns-then-m-lt1 c = search (rules, tally_none)

pub returns : goal.returns
returns c = (
  tally_some _ _ _ (search rules) c.row_size.ensures.0,
  omega (arith, rows-small c.args.m c.row_size.result (search rules) c.row_size.ensures.1),
)
