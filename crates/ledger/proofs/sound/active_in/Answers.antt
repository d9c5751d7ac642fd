use mathlib.Core.Path.{sym, ◌∙◌}
use native.Mathlib.Omega.{arith}
use lib.Bits.{or_zero_l}
use Rattle.model.specs.Line.{empty_session}
use Rattle.ledger.proofs.Soundness.{active_next, active_end}
use Rattle.ledger.proofs.sound.active_in.Goals as goal

pub loop-s-init : goal.loop-s-init
loop-s-init c = or_zero_l _

pub loop-s-preserved : goal.loop-s-preserved
unfolding empty_session
loop-s-preserved c = active_next c.args.sessions empty_session c.loop-s.s-index c.loop-s.roles (omega arith) ∙ c.loop-s.invariant

pub returns : goal.returns
returns c = sym (active_end c.args.sessions c.loop-s.s-index c.loop-s.roles (omega arith)) ∙ c.loop-s.invariant
