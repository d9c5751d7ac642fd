-- `asks_obstacle::fill` meets its contract.
-- Assumes nothing.
use borrow.Author.Rules.{rules}
use Rattle.asks_obstacle.proofs.Tellings.{pair_filled}
use Rattle.asks_obstacle.proofs.fill.Goals as goal

pub returns : goal.returns
returns c = search (rules, pair_filled)
