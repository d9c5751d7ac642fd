-- `clauses_text::whole::put_mark` meets its contract.
-- Assumes nothing.
use Rattle.model.specs.Dimacs.{ascii}
use Rattle.clauses_text.proofs.whole.put_mark.Goals as goal

pub returns : goal.returns
returns c = unfold ascii in c.put_all.ensures
