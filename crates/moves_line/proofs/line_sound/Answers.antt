-- `moves_line::line_sound` meets its contract.
-- Assumes nothing.
use mathlib.Core.Path.{sym}
use native.Mathlib.Omega.{arith}
use Rattle.model.specs.Line.{SESSIONS}
use Rattle.moves_line.proofs.OneLine.{formed_by}
use Rattle.moves_line.proofs.line_sound.Goals as goal

pub plainly_sound-requires : goal.plainly_sound-requires
plainly_sound-requires c = (c.args.line.now.whole, omega arith)

pub returns-then-plainly_sound : goal.returns-then-plainly_sound
returns-then-plainly_sound c m anti h = sym (c.plainly_sound.ensures c.if-plainly_sound.true m h)

pub returns : goal.returns
returns c m anti h =
    formed_by c.args.line.now.sessions SESSIONS m anti c.args.line.now.bytes.now c.args.line.now.some c.args.line.now.most _ c.line_in-l.ensures c.below.ensures
    (c.sound.ensures m h)
