use mathlib.Core.Path.{refl, ap, ◌∙◌}
use native.Mathlib.Omega.{arith}
use lib.ListN.{drop}
use Rattle.model.specs.Line.{line_size, read_sessions, empty_session, session_sound}
use Rattle.model_laws.proofs.LineLaws.{length-read_sessions}
use Rattle.ledger.proofs.Places.{session_there}
use Rattle.ledger.proofs.Soundness.{sound-next, sound_stop, sound_end}
use Rattle.ledger.proofs.plainly.sessions_sound_in.Goals as goal

pub loop-k-init : goal.loop-k-init
loop-k-init c = (omega arith, λ m l a o h. refl)

pub session_at-s-requires : goal.session_at-s-requires
unfolding line_size
session_at-s-requires c = omega (arith, c.requires.0)

pub returns-then-not-session_sound : goal.returns-then-not-session_sound
returns-then-not-session_sound c m l e o h =
    let ss = read_sessions c.args.sessions (drop 16 c.args.bytes.now) in
    let n = length-read_sessions c.args.sessions (drop 16 c.args.bytes.now) in
    let there = session_there c.args.sessions c.loop-k.k c.args.bytes.now empty_session _ (omega arith) c.session_at-s.ensures in
    let b = c.session_sound.ensures m l e o h ∙ ap (session_sound m l c.loop-k.k) there in
    sound_stop m l empty_session ss c.loop-k.k (omega (arith, n)) b c.if-not-session_sound.true ∙ c.loop-k.invariant.1 m l e o h

pub loop-k-preserved : goal.loop-k-preserved
loop-k-preserved c =
    let ss = read_sessions c.args.sessions (drop 16 c.args.bytes.now) in
    let n = length-read_sessions c.args.sessions (drop 16 c.args.bytes.now) in
    let there = session_there c.args.sessions c.loop-k.k c.args.bytes.now empty_session _ (omega arith) c.session_at-s.ensures in (
      omega arith,
      λ m l e o h.
          let b = c.session_sound.ensures m l e o h ∙ ap (session_sound m l c.loop-k.k) there in
          sound-next m l empty_session ss c.loop-k.k (omega (arith, n)) b c.if-not-session_sound.false ∙ c.loop-k.invariant.1 m l e o h,
    )

pub returns : goal.returns
returns c m l e o h =
    let n = length-read_sessions c.args.sessions (drop 16 c.args.bytes.now) in
    sound_end m l empty_session (read_sessions c.args.sessions (drop 16 c.args.bytes.now)) c.loop-k.k (omega (arith, n)) ∙ c.loop-k.invariant.1 m l e o h
