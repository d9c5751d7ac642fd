-- `limits_lines::lines::line_sound` meets its contract: the line is read, and judged by the roles of its user.
-- Assumes nothing.
use mathlib.Core.Path.{ap}
use native.Mathlib.Omega.{arith}
use Rattle.model.specs.declared.Head.{Head}
use Rattle.model.specs.Policy.{meaning}
use Rattle.model.specs.Line.{line_size}
use Rattle.model.specs.Run.{line_of}
use Rattle.sessions.proofs.FirstSteps.{held}
use Rattle.limits_lines.proofs.lines.line_sound.Goals as goal

pub sound_at-requires : goal.sound_at-requires
unfolding line_size
sound_at-requires c = omega arith

pub returns : goal.returns
unfolding line_of
returns c p h =
    let e = ap (λ (x : Head). x.users) h.head_is in
    let k = held c.args.tables.now.head c.args.tables.now.authorized _ p c.args.v _ h (omega arith) c.roles_of-own.ensures in
    c.sound_at.ensures (meaning p c.args.v) k
