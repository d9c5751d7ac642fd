use mathlib.Core.Path.{refl, ◌∙◌}
use native.Mathlib.Omega.{arith}
use Rattle.model.specs.Line.{empty_session}
use Rattle.ledger.proofs.Soundness.{sound-next, sound_stop, sound_end}
use Rattle.ledger.proofs.sound.sessions_sound.Goals as goal

pub loop-k-init : goal.loop-k-init
loop-k-init c = λ m e. refl

pub returns-then-not-session_sound : goal.returns-then-not-session_sound
unfolding empty_session
returns-then-not-session_sound c m e =
    sound_stop m _ empty_session _ c.loop-k.k (omega arith) (c.session_sound.ensures m _ e refl refl) c.if-not-session_sound.true ∙
    c.loop-k.invariant m e

pub loop-k-preserved : goal.loop-k-preserved
unfolding empty_session
loop-k-preserved c m e =
    sound-next m _ empty_session _ c.loop-k.k (omega arith) (c.session_sound.ensures m _ e refl refl) c.if-not-session_sound.false ∙
    c.loop-k.invariant m e

pub returns : goal.returns
returns c m e = sound_end m _ empty_session _ c.loop-k.k (omega arith) ∙ c.loop-k.invariant m e
