-- `ledger_change::bit` meets its contract.
-- Assumes nothing.
use borrow.Author.Rules.{rules}
use Rattle.model_laws.proofs.SetLaws.{shl_one}
use Rattle.ledger_change.proofs.bit.Statement.{statement}
use Rattle.ledger_change.proofs.bit.Tie as tie

returns : tie.Need-returns
returns c = shl_one 64 c.args.k c.requires

pub bit_spec : {M : Type 1} → statement M
bit_spec = tie.close (tie.spec (λ c. search rules) returns)
