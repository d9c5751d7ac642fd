use borrow.Author.Rules.{rules}
use Rattle.clauses_hard.specs.Parts.{carried_to}
use Rattle.clauses_lines.proofs.LineLaws.{lines_none, lines_next, lines-done}
use Rattle.clauses_hard.proofs.CarrierLaws.{column_put}
use Rattle.clauses_hard.proofs.carries.put_carried.Goals as goal

pub loop-q-init : goal.loop-q-init
loop-q-init c = search (rules, lines_none)

pub loop-q-preserved : goal.loop-q-preserved
loop-q-preserved c =
    let line = column_put _ _ _ _ _ c.put_carried_one-next.ensures c.carriers_of-table.ensures (search rules) in
    (search rules, lines_next _ _ _ c.loop-q.invariant.1 line)

pub returns : goal.returns
returns c = unfold carried_to in search (rules, lines-done)
