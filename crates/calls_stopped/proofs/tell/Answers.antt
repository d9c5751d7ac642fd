-- `calls_stopped::tell` meets its contract: each return names the tests that led there.
-- Assumes nothing.
use mathlib.Core.Path.{ap}
use Rattle.std.proofs.Common.{◌≡◌, ◌*◌}
use native.Mathlib.Omega.{arith}
use Rattle.reasons.specs.Numbers.{in_64_bits}
use Rattle.model.specs.declared.Head.{Head}
use Rattle.model.specs.Line.{SESSIONS, line_size}
use Rattle.calls_stopped.proofs.Telling.{no_fit, no_room, tells}
use Rattle.calls_stopped.proofs.tell.Goals as goal

pub returns-then-ledger-policy : goal.returns-then-ledger-policy
unfolding line_size
returns-then-ledger-policy c p h =
    rw c.from.ensures (no_fit SESSIONS p _ _ (ap (λ (x : Head). x.users) h.head_is) c.if-ledger-policy.true)

pub returns-then-users-ne8 : goal.returns-then-users-ne8
unfolding line_size
returns-then-users-ne8 c p h =
    rw c.from-then-users-ne8.ensures
    (no_room SESSIONS p _ _ (ap (λ (x : Head). x.users) h.head_is) c.if-ledger-policy.false c.if-users-ne8.true)

pub stopped_set-set-requires : goal.stopped_set-set-requires
unfolding line_size
stopped_set-set-requires c = c.if-ledger-policy.false

pub returns : goal.returns
unfolding line_size
returns c p h =
    let small : in_64_bits (256 * c.size.result) ≡ 256 * c.size.result = omega arith in
    rw small
    (tells SESSIONS p _ _ (ap (λ (x : Head). x.users) h.head_is) c.if-ledger-policy.false c.if-users-ne8.false _ _ _ (c.stopped_set-set.ensures p h)
    c.size.ensures c.put_u64.ensures)
