-- `sessions_show::show::show_session` meets its contract: each return names the tests that led there.
-- Assumes nothing.
use mathlib.Core.Path.{refl}
use borrow.Author.Rules.{rules}
use Rattle.model.specs.Line.{SESSIONS, empty_session, session_at}
use Rattle.model.specs.Session.{is_ask, can_give, session_of}
use Rattle.model.specs.Run.{show_by, line_of}
use Rattle.sessions.proofs.Reasons.{shows-exit, shows-reason, first_stops, session_stops, passed_by}
use Rattle.sessions.proofs.SessionTests.{session_open}
use Rattle.sessions_show.proofs.Shown.{show19, show0}
use Rattle.sessions_show.proofs.show.show_session.Goals as goal

pub returns-in_err-first_refusal : goal.returns-in_err-first_refusal
unfolding show_by is_ask
returns-in_err-first_refusal c p h eg ej =
    shows-exit _ _ _ (first_stops _ p _ _ _ refl (c.in_err-first_refusal.ensures p h)) _ c.from_residual.ensures.1 _

pub line_of-l-requires : goal.line_of-l-requires
line_of-l-requires c =
    let pd = passed_by c.args.tables.now c.args.ledger.now c.args.who.user c.in_ok-first_refusal.ensures in
    pd.line

pub returns-in_err-session_refusal : goal.returns-in_err-session_refusal
unfolding show_by can_give session_of line_of
returns-in_err-session_refusal c p h eg ej =
    let pd = passed_by c.args.tables.now c.args.ledger.now c.args.who.user c.in_ok-first_refusal.ensures in
    shows-exit _ _ _ (session_stops _ p _ _ _ (pd.ready p h) _ refl _ c.line_of-l.ensures c.in_err-session_refusal.ensures) _
    c.from_residual-in_err-session_refusal.ensures.1 _

pub returns-then-answer-ne40 : goal.returns-then-answer-ne40
unfolding line_of
returns-then-answer-ne40 c p h eg ej =
    let pd = passed_by c.args.tables.now c.args.ledger.now c.args.who.user c.in_ok-first_refusal.ensures in
    let o = session_open SESSIONS c.line_of-l.result c.args.who.session c.in_ok-session_refusal.ensures in
    shows-reason _ _ c.from.ensures _ _
    (show19 _ p _ _ _ _ (pd.ready p h) o.below (rw (← c.line_of-l.ensures) o.opened) c.if-answer-ne40.true) _

pub offset_bounds-l-session : goal.offset_bounds-l-session
offset_bounds-l-session c =
    let o = session_open SESSIONS c.line_of-l.result c.args.who.session c.in_ok-session_refusal.ensures in
    search (rules, o.below)

pub bounds-l-session : goal.bounds-l-session
bounds-l-session c =
    let o = session_open SESSIONS c.line_of-l.result c.args.who.session c.in_ok-session_refusal.ensures in
    o.below

pub returns : goal.returns
unfolding line_of session_at empty_session
returns c p h eg ej =
    let pd = passed_by c.args.tables.now c.args.ledger.now c.args.who.user c.in_ok-first_refusal.ensures in
    let o = session_open SESSIONS c.line_of-l.result c.args.who.session c.in_ok-session_refusal.ensures in
    show0 _ p _ _ _ _ (pd.ready p h) o.below (rw (← c.line_of-l.ensures) o.opened)
    c.if-answer-ne40.false _ _ _ _ _ c.line_of-l.ensures eg ej
    (rw (← c.grants.ensures.granted, ← c.grants.ensures.below) c.carried_by-permissions.ensures) c.fill.ensures
