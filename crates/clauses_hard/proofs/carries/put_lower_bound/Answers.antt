use borrow.Author.Rules.{rules}
use Rattle.clauses_hard.specs.Parts.{lower, lower_bound_to}
use Rattle.clauses_hard.proofs.WalkLaws.{walk_starts, walk_goes, walk_ends}
use Rattle.clauses_hard.proofs.carries.put_lower_bound.Goals as goal

pub loop-q-init : goal.loop-q-init
loop-q-init c = search (rules, walk_starts)

pub loop-q-preserved : goal.loop-q-preserved
loop-q-preserved c =
    let p = rw c.permission.ensures at c.put_must-next.ensures in search (rules, p, walk_goes)

pub returns : goal.returns
returns c = unfold lower_bound_to lower in walk_ends _ c.loop-q-test.false c.loop-q.invariant.1
