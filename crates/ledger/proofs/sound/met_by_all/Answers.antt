-- `ledger::sound::met_by_all` meets its contract.
-- Assumes nothing.
use Rattle.ledger.proofs.Named.{met_by_all_lem}
use Rattle.ledger.proofs.sound.met_by_all.Goals as goal

pub returns-then-fewer : goal.returns-then-fewer
returns-then-fewer c = met_by_all_lem _ _ c.requires c.fewer.ensures c.if-fewer.true
