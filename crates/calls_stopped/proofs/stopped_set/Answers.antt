-- `calls_stopped::stopped_set` meets its contract.
-- Assumes nothing.
use mathlib.Core.Path.{sym, ap}
use Rattle.std.proofs.Common.{rules}
use Rattle.model.specs.declared.Head.{Head}
use Rattle.model.specs.Line.{SESSIONS}
use Rattle.calls_stopped.proofs.Telling.{stops, set_all}
use Rattle.calls_stopped.proofs.stopped_set.Goals as goal

pub returns : goal.returns
returns c p h =
    let n = ap (λ (x : Head). x.users) h.head_is in
    set_all SESSIONS p _ _ _ (sym n) (c.set_of.ensures (stops SESSIONS p c.args.ledger.now) (λ k b l e. search (rules, h)))
