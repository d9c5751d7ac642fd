-- `ledger::sound::session_sound` meets its contract.
-- Assumes nothing.
use Rattle.ledger.proofs.Soundness.{empty_sound, tests_sound}
use Rattle.ledger.proofs.sound.session_sound.Goals as goal

pub returns-then-zero : goal.returns-then-zero
returns-then-zero c m l e o h = empty_sound m l _ _ c.if-zero.true

pub returns : goal.returns
returns c m l e o h =
    tests_sound m l _ _ _ _ _ e o h c.if-zero.false c.has-formed.ensures c.within-inner.ensures c.within-outer.ensures c.within.ensures
