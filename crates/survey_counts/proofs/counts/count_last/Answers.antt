-- The last line is answered and counted where it has a byte.
-- Assumes nothing.
use borrow.Author.Rules.{rules}
use native.Mathlib.Omega.{arith}
use Rattle.survey_counts.proofs.CountLaws.{last_counted}
use Rattle.survey_counts.proofs.counts.count_last.Goals as goal

pub returns : goal.returns
returns c = (
  last_counted c.args.image.now c.args.ledger.now c.args.counts.now c.args.line.now _ _ c.bytes-bytes.ensures.0 (search rules)
      c.count_line.ensures.1,
  c.count_line.ensures.3,
  omega (arith, c.count_line.ensures.0),
)
