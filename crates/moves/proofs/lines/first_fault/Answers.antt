use mathlib.Core.Path.{◌≡◌, sym, ap, ◌∙◌}
use Prim.Native.Nat.{ℕ, ◌+◌, ◌-◌, ◌*◌}
use native.Mathlib.Omega.{arith}
use Rattle.model.specs.declared.Head.{Head}
use Rattle.model.specs.Policy.{meaning}
use Rattle.model.specs.Run.{returned}
use Rattle.model.specs.Moves.{move_answer}
use Rattle.model_laws.proofs.MetLaws.{meaning_antitone}
use Rattle.sessions.proofs.FirstSteps.{held}
use Rattle.sessions.proofs.Reasons.{numbered}
use Rattle.moves.proofs.AllLines.{fault_at, answer_next, answer_stop, answer_end}
use Rattle.moves.proofs.lines.first_fault.Goals as goal

pub loop-u-init : goal.loop-u-init
loop-u-init c =
    let o = c.args.old.now in
    let e : o.users - 0 ≡ o.users = omega arith in
    λ p h. ap (move_answer o.sessions c.args.to p o.bytes.now 0) e

pub returns-in-Err : goal.returns-in-Err
returns-in-Err c p h =
    let o = c.args.old.now in
    let e : p.head.users ≡ c.args.tables.now.head.users = ap (λ (x : Head). x.users) h.head_is in
    let k = held c.args.tables.now.head c.args.tables.now.authorized _ p c.loop-u.u _ h (omega arith) c.roles_of-own.ensures in
    let y = c.in-Err.ensures (meaning p c.loop-u.u) (meaning_antitone p c.loop-u.u) k in
    let x = fault_at c.args.to p o.bytes.now c.loop-u.u c.line.ensures.1 c.line.ensures.0 y in
    ap (λ (k : ℕ). k + 256 * c.loop-u.u) x
    ∙ answer_stop o.sessions c.args.to p o.bytes.now c.loop-u.u o.users (omega arith) (λ k. numbered c.in-Err.reason (x ∙ k))
    ∙ ap returned (c.loop-u.invariant p h)

pub loop-u-preserved : goal.loop-u-preserved
loop-u-preserved c p h =
    let o = c.args.old.now in
    let e : p.head.users ≡ c.args.tables.now.head.users = ap (λ (x : Head). x.users) h.head_is in
    let k = held c.args.tables.now.head c.args.tables.now.authorized _ p c.loop-u.u _ h (omega arith) c.roles_of-own.ensures in
    let y = c.in_default.ensures (meaning p c.loop-u.u) (meaning_antitone p c.loop-u.u) k in
    let x = fault_at c.args.to p o.bytes.now c.loop-u.u c.line.ensures.1 c.line.ensures.0 y in
    answer_next o.sessions c.args.to p o.bytes.now c.loop-u.u o.users (omega arith) (sym x) ∙ c.loop-u.invariant p h

pub returns : goal.returns
returns c p h =
    let o = c.args.old.now in
    answer_end o.sessions c.args.to p o.bytes.now c.loop-u.u o.users (omega arith) ∙ ap returned (c.loop-u.invariant p h)
