-- One count more.
-- Assumes nothing.
use mathlib.Core.Path.{refl}
use borrow.Author.Rules.{rules}
use native.Mathlib.Omega.{arith}
use Rattle.survey_counts.proofs.CountLaws.{noted_is, noted-most}
use Rattle.survey_counts.proofs.counts.count_line.Goals as goal

pub overflow_add-counts : goal.overflow_add-counts
overflow_add-counts c =
    omega (arith, c.requires.0 c.answer-n.result)

pub returns : goal.returns
returns c = (
  refl,
  noted_is c.args.counts.now c.answer-n.result _ c.answer-n.ensures.0,
  c.answer-n.ensures.2,
  noted-most c.args.counts.now c.answer-n.result c.args.calls (search rules) (omega (arith, c.answer-n.ensures.1)) c.requires.0,
)
