use borrow.Author.Rules.{rules}
use Rattle.clauses_hard.specs.Parts.{carrying_to}
use Rattle.clauses_lines.proofs.LineLaws.{lines_none, lines_next, lines-done}
use Rattle.clauses_hard.proofs.carries.put_carrying.Goals as goal

pub loop-r-init : goal.loop-r-init
loop-r-init c = search (rules, lines_none)

pub loop-r-preserved : goal.loop-r-preserved
loop-r-preserved c = search (rules, lines_next)

pub returns : goal.returns
returns c = unfold carrying_to in search (rules, lines-done)
