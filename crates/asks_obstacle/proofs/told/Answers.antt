-- `asks_obstacle::told` meets its contract.
-- Assumes nothing.
use Rattle.asks_obstacle.proofs.Tellings.{tells-nothing, tells-one}
use Rattle.asks_obstacle.proofs.told.Goals as goal

pub returns-in-None : goal.returns-in-None
returns-in-None c = rw c.from.ensures (tells-nothing _ _ c.in-None.is)

pub returns-in-Some : goal.returns-in-Some
returns-in-Some c =
    tells-one _ _ _ _ _ _ _ c.in-Some.is c.answer_of-answer.ensures c.fill.ensures
