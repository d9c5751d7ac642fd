-- `asks_obstacle::found_for` meets its contract.
-- Assumes nothing.
use Rattle.asks_obstacle.proofs.Tellings.{asking_of}
use Rattle.asks_obstacle.proofs.found_for.Goals as goal

pub returns : goal.returns
returns c p x ledger g o e =
    c.obstacle.ensures p _ x (rw (c.grants.ensures.granted, c.grants.ensures.below) (asking_of p _ x _ _ _ _ _ _ _ _ g o e))
