-- `calls_moves::narrow` meets its contract: it is the move from eight sessions a user to four.
-- Assumes nothing.
use Rattle.calls_moves.proofs.narrow.Goals as goal

pub returns : goal.returns
returns c = c.moved.ensures
