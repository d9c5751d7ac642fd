use borrow.Author.Rules.{rules}
use Rattle.clauses_hard.specs.Parts.{upper_bound_to}
use Rattle.clauses_lines.proofs.LineLaws.{lines_none, lines_next, lines-done}
use Rattle.clauses_hard.proofs.carries.put_upper_bound.Goals as goal

pub loop-q-init : goal.loop-q-init
loop-q-init c = search (rules, lines_none)

pub loop-q-preserved : goal.loop-q-preserved
loop-q-preserved c = search (rules, lines_next)

pub returns : goal.returns
returns c = unfold upper_bound_to in search (rules, lines-done)
