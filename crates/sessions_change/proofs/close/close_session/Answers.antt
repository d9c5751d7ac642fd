-- `sessions_change::close::close_session` meets its contract: each return names the tests that led there.
-- Assumes nothing.
use mathlib.Core.Path.{refl}
use Rattle.model.specs.Line.{SESSIONS}
use Rattle.model.specs.Session.{is_ask, can_give, session_of}
use Rattle.model.specs.Run.{close_by, line_of}
use Rattle.sessions.proofs.Reasons.{gives-exit, first_stops, session_stops, passed_by}
use Rattle.sessions.proofs.SessionTests.{session_open}
use Rattle.sessions_change.proofs.Closes.{close0}
use Rattle.sessions_change.proofs.close.close_session.Goals as goal

pub returns-in_err-first_refusal : goal.returns-in_err-first_refusal
unfolding close_by is_ask
returns-in_err-first_refusal c p h =
    gives-exit _ _ _ (first_stops _ p _ _ _ refl (c.in_err-first_refusal.ensures p h)) _ c.from_residual.ensures.1

pub line_of-l-requires : goal.line_of-l-requires
line_of-l-requires c =
    let pd = passed_by c.args.tables.now c.args.ledger.now c.args.who.user c.in_ok-first_refusal.ensures in
    pd.line

pub returns-in_err-session_refusal : goal.returns-in_err-session_refusal
unfolding close_by can_give session_of line_of
returns-in_err-session_refusal c p h =
    let pd = passed_by c.args.tables.now c.args.ledger.now c.args.who.user c.in_ok-first_refusal.ensures in
    gives-exit _ _ _ (session_stops _ p _ _ _ (pd.ready p h) _ refl _ c.line_of-l.ensures c.in_err-session_refusal.ensures) _
    c.from_residual-in_err-session_refusal.ensures.1

pub closed-requires : goal.closed-requires
closed-requires c =
    let o = session_open SESSIONS c.line_of-l.result c.args.who.session c.in_ok-session_refusal.ensures in
    (o.below, o.opened)

pub put_line-requires : goal.put_line-requires
put_line-requires c =
    let pd = passed_by c.args.tables.now c.args.ledger.now c.args.who.user c.in_ok-first_refusal.ensures in
    pd.line

pub returns : goal.returns
unfolding line_of
returns c p h =
    let pd = passed_by c.args.tables.now c.args.ledger.now c.args.who.user c.in_ok-first_refusal.ensures in
    let o = session_open SESSIONS c.line_of-l.result c.args.who.session c.in_ok-session_refusal.ensures in
    close0 _ p _ _ _ (pd.ready p h) o.below (rw (← c.line_of-l.ensures) o.opened)
    _ _ _ c.line_of-l.ensures c.closed.ensures c.put_line.ensures
