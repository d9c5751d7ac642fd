-- `moves_line::line_size` meets its contract.
-- Assumes nothing.
use borrow.Author.Rules.{rules}
use Rattle.model.specs.Line.{line_size}
use Rattle.moves_line.proofs.line_size.Statement.{statement}
use Rattle.moves_line.proofs.line_size.Tie as tie

returns : tie.Need-returns
unfolding line_size
returns c = search rules

pub line_size_spec : {M : Type 1} → statement M
line_size_spec = tie.close (tie.spec (λ c. search rules) (λ c. search rules) returns)
