use borrow.Author.Rules.{rules}
use Rattle.std.proofs.Common.{◌≤◌, length}
use native.Mathlib.Omega.{arith}
use Rattle.clauses_hard.specs.Sizes.{carrying_size}
use Rattle.clauses_hard.proofs.SizeLaws.{sum-start, sum-next, sum_done, row_taken}
use Rattle.clauses_hard.proofs.sizes.carrying_size.Goals as goal

pub loop-row-init : goal.loop-row-init
loop-row-init c = search (rules, sum-start)

pub loop-row-preserved : goal.loop-row-preserved
loop-row-preserved c =
    let few : c.args.variables.roles ≤ length c.args.rows.now = omega (arith, c.told-rows, c.args.variables.few_roles) in
    (sum-next _ _ _ _ c.loop-row.invariant.0 (row_taken _ _ _ _ _ few (search rules) c.permissions_below-total.ensures.0), search rules)

pub returns : goal.returns
returns c = unfold carrying_size in search (rules, sum_done)
