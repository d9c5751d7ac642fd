-- `limits_lines::lines::refusal` meets its contract: each return names the tests that led there.
-- Assumes nothing.
use mathlib.Core.Path.{ap}
use borrow.Author.Rules.{rules}
use Rattle.model.specs.declared.Head.{Head}
use Rattle.model.specs.Line.{SESSIONS, line_size}
use Rattle.limits_lines.proofs.Blaming.{no_limits, no_fit, no_line, lines_looked}
use Rattle.limits_lines.proofs.lines.refusal.Goals as goal

pub returns-then-not-has_limits : goal.returns-then-not-has_limits
returns-then-not-has_limits c p h l = no_limits SESSIONS p _ _ l c.has_limits.ensures c.if-not-has_limits.true

pub returns-then-ledger-users : goal.returns-then-ledger-users
unfolding line_size
returns-then-ledger-users c p h l = no_fit SESSIONS p _ _ (ap (λ (x : Head). x.users) h.head_is) c.if-ledger-users.true

pub returns-then-users-user : goal.returns-then-users-user
returns-then-users-user c p h l = no_line SESSIONS p _ _ (ap (λ (x : Head). x.users) h.head_is) c.if-users-user.true

pub lines_refusal-requires : goal.lines_refusal-requires
unfolding line_size
lines_refusal-requires c = search rules

pub returns : goal.returns
unfolding line_size
returns c p h l =
    lines_looked SESSIONS p _ _ _ l c.has_limits.ensures c.if-not-has_limits.false (ap (λ (x : Head). x.users) h.head_is)
    c.if-ledger-users.false
    c.if-users-user.false (c.lines_refusal.ensures p h)
