use mathlib.Core.Path.{ap, ◌∙◌}
use native.Mathlib.Omega.{arith}
use Rattle.model.specs.Line.{SESSIONS}
use Rattle.limits_lines.specs.Lines.{lines_refusal}
use Rattle.limits_lines.proofs.Blaming.{lines_next, lines_stop, lines_end}
use Rattle.limits_lines.proofs.lines.lines_refusal.Goals as goal

pub loop-v-init : goal.loop-v-init
loop-v-init c = λ p h. ap (lines_refusal SESSIONS p _ _ 0) (omega arith)

pub returns-then-not-line_sound : goal.returns-then-not-line_sound
returns-then-not-line_sound c p h =
    c.blamed.ensures
    ∙ lines_stop SESSIONS p c.args.ledger.now c.args.user c.loop-v.v _ (omega arith) (c.line_sound.ensures p h) c.if-not-line_sound.true
    ∙ c.loop-v.invariant p h

pub loop-v-preserved : goal.loop-v-preserved
loop-v-preserved c p h =
    lines_next SESSIONS p c.args.ledger.now c.args.user c.loop-v.v _ (omega arith) (c.line_sound.ensures p h) c.if-not-line_sound.false
    ∙ c.loop-v.invariant p h

pub returns : goal.returns
returns c p h =
    lines_end SESSIONS p c.args.ledger.now c.args.user c.loop-v.v _ (omega arith) ∙ c.loop-v.invariant p h
