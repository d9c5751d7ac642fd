-- `calls_short::short_ask` meets its contract: a short ask is the ask with `short_aim` for both objectives.
-- Assumes nothing.
use borrow.Author.Rules.{rules}
use Rattle.model.specs.Session.{short_aim}
use Rattle.calls_short.proofs.ShortAsks.{short_given}
use Rattle.calls_short.proofs.short_ask.Goals as goal

pub returns : goal.returns
unfolding short_aim
returns c = short_given _ _ _ _ _ _ _ _ c.ask_roles.ensures
