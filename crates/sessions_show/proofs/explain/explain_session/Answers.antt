-- `sessions_show::explain::explain_session` meets its contract: each return names the tests that led there.
-- Assumes nothing.
use mathlib.Core.Path.{refl, ap, ◌∙◌}
use borrow.Author.Rules.{rules}
use Rattle.model.specs.Line.{SESSIONS, empty_session, session_at}
use Rattle.model.specs.Session.{is_ask, can_give, session_of}
use Rattle.model.specs.Run.{explain_by, line_of}
use Rattle.reasons.specs.Numbers.{returned_by}
use Rattle.tables_rows.specs.Told.{told}
use Rattle.sessions.proofs.Reasons.{first_stops, session_stops, passed_by}
use Rattle.sessions.proofs.SessionTests.{session_open}
use Rattle.sessions_show.proofs.Explained.{returns-exit, returns-reason, explain16, told_by, explain0}
use Rattle.sessions_show.proofs.explain.explain_session.Goals as goal

pub returns-in_err-first_refusal : goal.returns-in_err-first_refusal
unfolding explain_by is_ask
returns-in_err-first_refusal c p h eg ej =
    returns-exit _ _ _ (first_stops _ p _ _ _ refl (c.in_err-first_refusal.ensures p h)) _ c.from_residual.ensures.1

pub line_of-l-requires : goal.line_of-l-requires
line_of-l-requires c =
    let pd = passed_by c.args.tables.now c.args.ledger.now c.args.who.user c.in_ok-first_refusal.ensures in
    pd.line

pub returns-in_err-session_refusal : goal.returns-in_err-session_refusal
unfolding explain_by can_give session_of line_of
returns-in_err-session_refusal c p h eg ej =
    let pd = passed_by c.args.tables.now c.args.ledger.now c.args.who.user c.in_ok-first_refusal.ensures in
    returns-exit _ _ _ (session_stops _ p _ _ _ (pd.ready p h) _ refl _ c.line_of-l.ensures c.in_err-session_refusal.ensures) _
    c.from_residual-in_err-session_refusal.ensures.1

pub returns-then-tables-permission : goal.returns-then-tables-permission
unfolding line_of
returns-then-tables-permission c p h eg ej =
    let pd = passed_by c.args.tables.now c.args.ledger.now c.args.who.user c.in_ok-first_refusal.ensures in
    let o = session_open SESSIONS c.line_of-l.result c.args.who.session c.in_ok-session_refusal.ensures in
    returns-reason _ _ c.from.ensures _ _
    (explain16 _ p _ _ _ _ (pd.ready p h) o.below (rw (← c.line_of-l.ensures) o.opened) (rw h.head_is c.if-tables-permission.true))

pub offset_bounds-l-session : goal.offset_bounds-l-session
offset_bounds-l-session c =
    let o = session_open SESSIONS c.line_of-l.result c.args.who.session c.in_ok-session_refusal.ensures in
    search (rules, o.below)

pub bounds-l-session : goal.bounds-l-session
bounds-l-session c =
    let o = session_open SESSIONS c.line_of-l.result c.args.who.session c.in_ok-session_refusal.ensures in
    o.below

pub returns : goal.returns
unfolding line_of session_at empty_session
returns c p h eg ej =
    let pd = passed_by c.args.tables.now c.args.ledger.now c.args.who.user c.in_ok-first_refusal.ensures in
    let o = session_open SESSIONS c.line_of-l.result c.args.who.session c.in_ok-session_refusal.ensures in
    let x = c.explain-explained.ensures in
    explain0 _ p _ _ _ _ (pd.ready p h) o.below (rw (← c.line_of-l.ensures) o.opened) (rw h.head_is c.if-tables-permission.false) _ _ _ _
    c.line_of-l.ensures eg ej
    (ap returned_by c.ok_or.ensures.value ∙ told_by _ _ c.from-2.ensures x.1 ∙ ap told (rw (← c.grants.ensures.granted, ← c.grants.ensures.below) x.0))
