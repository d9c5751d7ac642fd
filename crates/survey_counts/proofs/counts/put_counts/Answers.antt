use borrow.Author.Rules.{rules}
use native.Mathlib.Omega.{arith}
use lib.ListN.{get_or}
use Rattle.script_text.proofs.TextLaws.{writes-joined, writes_as}
use Rattle.survey_counts.proofs.CountLines.{counts_begin, counts-next, counts_all}
use Rattle.survey_counts.proofs.counts.put_counts.Goals as goal

pub loop-n-init : goal.loop-n-init
loop-n-init c = (search rules, search rules, counts_begin (λ k. get_or c.args.counts.now k 0) c.args.text.now)

pub put_count-requires : goal.put_count-requires
put_count-requires c = (omega (arith, c.requires, c.loop-n.invariant.1, c.loop-n.invariant.2.size), search rules)

pub loop-n-preserved : goal.loop-n-preserved
loop-n-preserved c = (
  search rules,
  omega (arith, c.put_count.ensures.1, c.loop-n.invariant.1),
  writes_as (counts-next (λ k. get_or c.args.counts.now k 0) c.loop-n.n) (writes-joined c.loop-n.invariant.2 c.put_count.ensures.0),
)

pub returns : goal.returns
returns c = (
  writes_as (counts_all (λ k. get_or c.args.counts.now k 0) c.loop-n.n 256 (search rules) (search rules)) c.loop-n.invariant.2,
  omega (arith, c.loop-n.invariant.1, c.loop-n.invariant.0),
)
