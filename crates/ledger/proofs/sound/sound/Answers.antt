-- `ledger::sound::sound` meets its contract.
-- Assumes nothing.
use Rattle.model.specs.Line.{sound}
use Rattle.ledger.proofs.sound.sound.Goals as goal

pub returns : goal.returns
unfolding sound
returns c m h =
    let a = c.exclusions_met.ensures m h.exclusions in
    let b = c.sessions_sound-sessions.ensures m h.allowed in
    let e = h.number in
    cc
