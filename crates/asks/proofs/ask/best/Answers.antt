-- `asks::ask::best` meets its contract: the reduced exclusions are met exactly where every exclusion is.
-- Assumes nothing.
use Rattle.asks.specs.Asks.{left_to}
use Rattle.asks.proofs.Rows.{given-of}
use Rattle.asks.proofs.ask.best.Goals as goal

pub returns : goal.returns
returns c p u x a b h k g =
    c.solve.ensures (left_to p u x c.args.at.line c.args.at.session) c.args.at.line c.args.at.session a b h k
    (rw c.list.ensures (given-of p u x _ _ _ _ _ _ c.reduce-reduced.ensures.1 g))
