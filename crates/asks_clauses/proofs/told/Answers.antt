-- `asks_clauses::told` meets its contract.
-- Assumes nothing.
use Rattle.asks_clauses.proofs.TextCalls.{told_long, told_short}
use Rattle.asks_clauses.proofs.told.Goals as goal

pub returns-then-room-size : goal.returns-then-room-size
returns-then-room-size c = rw c.from.ensures (told_long c.args.size c.args.room _ c.if-room-size.true)

pub returns : goal.returns
returns c = told_short c.args.size c.args.room _ c.if-room-size.false
