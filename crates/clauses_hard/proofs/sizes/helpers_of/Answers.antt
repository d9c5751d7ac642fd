use mathlib.Core.Path.{refl}
use borrow.Author.Rules.{rules}
use native.Mathlib.Omega.{arith}
use Rattle.clauses_hard.proofs.SizeLaws.{sum-start, exclusion_helpers}
use Rattle.clauses_hard.proofs.sizes.helpers_of.Goals as goal

pub loop-x-init : goal.loop-x-init
loop-x-init c = search (rules, sum-start)

pub loop-x-preserved : goal.loop-x-preserved
loop-x-preserved c = (
  exclusion_helpers _ _ _ _ _ _ _ c.list-x-items.ensures (search rules) c.loop-x.invariant.0 refl c.helpers-total.ensures.0,
  omega (arith, c.helpers-total.ensures.1, c.loop-x.invariant.1),
)
