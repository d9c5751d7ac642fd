-- `moves::lines::move_lines` meets its contract: each return names the tests that led there.
-- Assumes nothing.
use mathlib.Core.Path.{refl, ap}
use Prim.Native.Nat.{◌≤◌}
use native.Mathlib.Omega.{arith}
use Rattle.std.proofs.lemmas.Result.{err_from_is_err_and}
use Rattle.model.specs.declared.Head.{Head}
use Rattle.model.specs.Line.{SESSIONS, line_size}
use Rattle.sessions.proofs.Reasons.{gives-reason, coded}
use Rattle.moves.proofs.AllLines.{lines-most, move9, move19, move_faulty, move-done}
use Rattle.moves.proofs.lines.move_lines.Goals as goal

pub overflow_mul-line_size : goal.overflow_mul-line_size
unfolding line_size
overflow_mul-line_size c =
    let few : c.args.tables.now.head.users ≤ 64 = omega arith in
    omega (arith, lines-most c.args.from SESSIONS _ _ c.line_size.ensures c.requires.1 few)

pub returns-then-old-line_size : goal.returns-then-old-line_size
returns-then-old-line_size c p h =
    let e = ap (λ (x : Head). x.users) h.head_is in
    gives-reason _ _ c.from.ensures _ _ (move9 _ _ p _ _ (λ q. c.if-old-line_size.true (cc)))

pub overflow_mul-line_size-2 : goal.overflow_mul-line_size-2
unfolding line_size
overflow_mul-line_size-2 c =
    let few : c.args.tables.now.head.users ≤ 64 = omega arith in
    omega (arith, lines-most c.args.to SESSIONS _ _ c.line_size-2.ensures c.requires.2 few)

pub returns-then-new-line_size : goal.returns-then-new-line_size
returns-then-new-line_size c p h =
    let e = ap (λ (x : Head). x.users) h.head_is in
    gives-reason _ _ c.from-then-new-line_size.ensures _ _ (move19 _ _ p _ _ (cc) (λ q. c.if-new-line_size.true (cc)))

pub returns-in_err-first_fault : goal.returns-in_err-first_fault
returns-in_err-first_fault c p h =
    let e = ap (λ (x : Head). x.users) h.head_is in
    let q = err_from_is_err_and c.from_residual.result c.from_residual.ensures.1 in
    rw (q.1, q.2)
    (move_faulty _ _ p _ _ (cc) (cc) _ _ e (c.in_err-first_fault.ensures p h) (coded c.in_err-first_fault.field-0.0))

pub returns : goal.returns
returns c p h =
    let e = ap (λ (x : Head). x.users) h.head_is in
    move-done _ _ p _ _ (cc) (cc) _ _ e (c.in_ok-first_fault.ensures p h) refl _ c.put_lines.ensures
