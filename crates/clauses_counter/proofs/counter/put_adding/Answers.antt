use borrow.Author.Rules.{rules}
use Rattle.model.specs.Clauses.{adding}
use Rattle.clauses_lines.proofs.LineLaws.{lines_none, lines-done, lines_next, line_put}
use Rattle.clauses_counter.proofs.counter.put_adding.Goals as goal

pub loop-j-init : goal.loop-j-init
loop-j-init c = search (rules, lines_none)

pub loop-j-preserved : goal.loop-j-preserved
loop-j-preserved c = search (rules, lines_next, line_put)

pub returns : goal.returns
returns c = unfold adding in lines-done _ _ _ _ (search rules) (search rules) c.loop-j.invariant.1
