-- `sessions::first::first_refusal` meets its contract: each return names the tests that led there.
-- Assumes nothing.
use mathlib.Core.Path.{◌≡◌, sym, ap, ◌∙◌}
use Prim.Native.Nat.{ℕ, ◌*◌}
use native.Mathlib.Omega.{arith}
use Rattle.model.specs.declared.Head.{Head}
use Rattle.model.specs.Policy.{meaning}
use Rattle.model.specs.Line.{SESSIONS, line_size}
use Rattle.model.specs.Run.{line_of}
use Rattle.exclusion_rows.specs.Table.{exclusions_of}
use Rattle.sessions.proofs.FirstSteps.{first9, first10, first11, first0, held}
use Rattle.sessions.proofs.first.first_refusal.Goals as goal

pub returns-then-ledger-users : goal.returns-then-ledger-users
unfolding line_size
returns-then-ledger-users c p h =
    let e : p.head.users ≡ c.args.tables.now.head.users = ap (λ (x : Head). x.users) h.head_is in
    first9 SESSIONS p _ _ (λ q. c.if-ledger-users.true (q ∙ ap (λ (n : ℕ). line_size SESSIONS * n) e))

pub returns-then-users-user : goal.returns-then-users-user
unfolding line_size
returns-then-users-user c p h =
    let e : p.head.users ≡ c.args.tables.now.head.users = ap (λ (x : Head). x.users) h.head_is in
    first10 SESSIONS p _ _ (omega arith) (omega arith)

pub sound_at-requires : goal.sound_at-requires
unfolding line_size
sound_at-requires c = omega arith

pub returns-then-not-sound_at : goal.returns-then-not-sound_at
unfolding line_size line_of
returns-then-not-sound_at c p h =
    let e : p.head.users ≡ c.args.tables.now.head.users = ap (λ (x : Head). x.users) h.head_is in
    let m = meaning p c.args.user in
    let s = c.sound_at.ensures m (held _ _ (exclusions_of c.args.tables.now.exclusions) p c.args.user _ h (omega arith) c.roles_of-own.ensures) in
    first11 SESSIONS p _ _ (omega arith) (omega arith) (sym s ∙ c.if-not-sound_at.true)

pub returns : goal.returns
unfolding line_size line_of
returns c p h =
    let e : p.head.users ≡ c.args.tables.now.head.users = ap (λ (x : Head). x.users) h.head_is in
    let m = meaning p c.args.user in
    let s = c.sound_at.ensures m (held _ _ (exclusions_of c.args.tables.now.exclusions) p c.args.user _ h (omega arith) c.roles_of-own.ensures) in
    first0 SESSIONS p _ _ (omega arith) (omega arith) (sym s ∙ c.if-not-sound_at.false)
