-- `ledger_change::put_in` meets its contract.
-- Assumes nothing.
use borrow.Author.Rules.{rules}
use Rattle.model.specs.Line.{empty_session, session_at, put_in}
use Rattle.ledger_change.proofs.put_in.Statement.{statement}
use Rattle.ledger_change.proofs.put_in.Tie as tie

returns : tie.Need-returns
unfolding put_in session_at empty_session
returns c = cc

pub put_in_spec : {M : Type 1} → statement M
put_in_spec = tie.close (tie.spec (λ c. search rules) (λ c. search rules) (λ c. search rules) (λ c. search rules) returns)
