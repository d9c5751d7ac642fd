-- `ledger::plainly::sound_at` meets its contract.
-- Assumes nothing.
use mathlib.Core.Path.{sym, ap, ◌∙◌}
use native.Mathlib.Omega.{arith}
use lib.ListN.{length}
use Rattle.model.specs.Line.{SESSIONS, line_size, read_line, sound}
use Rattle.ledger.proofs.Places.{length-line}
use Rattle.ledger.proofs.plainly.sound_at.Goals as goal

pub line_bytes-bytes-requires : goal.line_bytes-bytes-requires
unfolding line_size
line_bytes-bytes-requires c = omega arith

pub plainly_sound-requires : goal.plainly_sound-requires
unfolding line_size
plainly_sound-requires c =
    (ap length c.line_bytes-bytes.ensures ∙ length-line (line_size SESSIONS) c.args.user c.args.ledger.now c.requires, omega arith)

pub returns-then-plainly_sound : goal.returns-then-plainly_sound
unfolding line_size
returns-then-plainly_sound c m h =
    sym (c.plainly_sound.ensures c.if-plainly_sound.true m h)
    ∙ ap (λ bs. sound SESSIONS m (read_line SESSIONS bs)) c.line_bytes-bytes.ensures

pub returns : goal.returns
returns c m h = c.sound.ensures m h ∙ ap (sound SESSIONS m) c.line_of-l.ensures
