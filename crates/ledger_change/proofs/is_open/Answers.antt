-- `ledger_change::is_open` meets its contract.
-- Assumes nothing.
use Rattle.model.specs.Line.{is_open}
use Rattle.ledger_change.proofs.is_open.Goals as goal

pub returns : goal.returns
unfolding is_open
returns c = c.has_bit.ensures
