-- `ledger::sound::met_at` meets its contract.
-- Assumes nothing.
use mathlib.Core.Path.{sym, ◌∙◌}
use Rattle.model.specs.Policy.{met}
use Rattle.model.specs.Line.{counted}
use Rattle.ledger.proofs.Soundness.{met_none}
use Rattle.ledger.proofs.sound.met_at.Goals as goal

pub returns-then-roles-eq0 : goal.returns-then-roles-eq0
returns-then-roles-eq0 c =
    met_none (counted c.args.l c.args.s) c.args.x (sym c.counted-roles.ensures ∙ c.if-roles-eq0.true)

pub returns : goal.returns
unfolding met
returns c = cc
