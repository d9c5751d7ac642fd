use borrow.Author.Rules.{rules}
use native.Mathlib.Omega.{arith}
use Rattle.clauses_hard.proofs.MemberLaws.{count_more}
use Rattle.clauses_hard.proofs.SizeLaws.{count-start}
use Rattle.clauses_hard.proofs.members.permissions_below.Goals as goal

pub loop-from-init : goal.loop-from-init
loop-from-init c = search (rules, count-start)

pub loop-from-preserved : goal.loop-from-preserved
loop-from-preserved c = (
  search rules,
  count_more _ _ _ _ _ _ c.rest.ensures (omega arith) c.loop-from.invariant.1 c.members_below-total.ensures.0,
  search rules,
)
