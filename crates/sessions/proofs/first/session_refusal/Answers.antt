-- `sessions::first::session_refusal` meets its contract: each return is answered by the law of the tests that led
-- there.
-- Assumes nothing.
use Rattle.sessions.proofs.SessionTests.{session12, session13, session0}
use Rattle.sessions.proofs.first.session_refusal.Goals as goal

pub returns-then-session : goal.returns-then-session
returns-then-session c = session12 _ _ _ c.if-session.true

pub returns-then-not-is_open : goal.returns-then-not-is_open
returns-then-not-is_open c = session13 _ _ _ c.if-session.false _ c.is_open.ensures c.if-not-is_open.true

pub returns : goal.returns
returns c = session0 _ _ _ c.if-session.false _ c.is_open.ensures c.if-not-is_open.false
