use borrow.Author.Rules.{rules}
use Rattle.clauses_hard.specs.Parts.{carried_as, carrying_row}
use Rattle.clauses_hard.proofs.WalkLaws.{walk_starts, walk_goes, walk_ends}
use Rattle.clauses_hard.proofs.carries.put_carrying_row.Goals as goal

pub loop-q-init : goal.loop-q-init
loop-q-init c = search (rules, walk_starts)

pub loop-q-preserved : goal.loop-q-preserved
loop-q-preserved c =
    let p = rw c.permission.ensures at c.put_implies-next.ensures in search (rules, p, walk_goes)

pub returns : goal.returns
returns c =
    let i = rw c.role_variable-x.ensures at c.loop-q.invariant.1 in unfold carrying_row carried_as in walk_ends _ c.loop-q-test.false i
