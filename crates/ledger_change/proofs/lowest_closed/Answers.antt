use mathlib.Core.Path.{refl, sym, ◌∙◌}
use native.Mathlib.Omega.{arith}
use Rattle.model.specs.Line.{SESSIONS}
use Rattle.ledger_change.proofs.Sessions.{lowest_here, lowest-next, lowest_none}
use Rattle.ledger_change.proofs.lowest_closed.Goals as goal

pub loop-k-init : goal.loop-k-init
loop-k-init c = refl

pub returns-then-not-is_open : goal.returns-then-not-is_open
returns-then-not-is_open c = (
  lowest_here c.args.l SESSIONS c.loop-k.k (omega arith) c.is_open.ensures c.if-not-is_open.true ∙ c.loop-k.invariant,
  omega arith,
  sym c.is_open.ensures ∙ c.if-not-is_open.true,
)

pub loop-k-preserved : goal.loop-k-preserved
loop-k-preserved c =
    lowest-next c.args.l SESSIONS c.loop-k.k (omega arith) c.is_open.ensures c.if-not-is_open.false ∙ c.loop-k.invariant

pub returns : goal.returns
returns c = sym (lowest_none c.args.l SESSIONS c.loop-k.k (omega arith) (omega arith) ∙ c.loop-k.invariant)
