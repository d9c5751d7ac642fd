-- `image_faults::fault::kind_fault` meets its contract.
-- Assumes nothing.
use Rattle.std.proofs.Common.{sym, ◌∙◌}
use Rattle.model.specs.Tests.{pick}
use Rattle.image_faults.proofs.fault.kind_fault.Goals as goal

pub returns-then-wrong_kind : goal.returns-then-wrong_kind
unfolding pick
returns-then-wrong_kind c = rw (sym c.wrong_kind.ensures ∙ c.if-wrong_kind.true)

pub returns : goal.returns
unfolding pick
returns c = rw (sym c.wrong_kind.ensures ∙ c.if-wrong_kind.false)
