-- `sessions_change::open::open_session` meets its contract: each return names the tests that led there.
-- Assumes nothing.
use mathlib.Core.Path.{◌≡◌, refl}
use Prim.Native.Nat.{◌*◌, ◌^◌, ◌<◌}
use native.Mathlib.Omega.{arith}
use Rattle.model.specs.Line.{SESSIONS}
use Rattle.model.specs.Session.{is_ask}
use Rattle.model.specs.Run.{open_by, line_of}
use Rattle.reasons.specs.Numbers.{in_64_bits}
use Rattle.sessions.proofs.Reasons.{gives-exit_returned, gives-reason, first_stops, passed_by}
use Rattle.sessions_change.proofs.Opens.{open14, open0}
use Rattle.sessions_change.proofs.open.open_session.Goals as goal

pub returns-in_err-first_refusal : goal.returns-in_err-first_refusal
unfolding open_by is_ask
returns-in_err-first_refusal c p h =
    gives-exit_returned _ _ _ (first_stops _ p _ _ _ refl (c.in_err-first_refusal.ensures p h)) _ c.from_residual.ensures.1

pub line_of-l-requires : goal.line_of-l-requires
line_of-l-requires c =
    let pd = passed_by c.args.tables.now c.args.ledger.now c.args.user c.in_ok-first_refusal.ensures in
    omega (arith, pd.line)

pub returns-in_default : goal.returns-in_default
unfolding line_of
returns-in_default c p h =
    let pd = passed_by c.args.tables.now c.args.ledger.now c.args.user c.in_ok-first_refusal.ensures in
    gives-reason _ _ c.from.ensures _ _ (open14 SESSIONS p _ _ (pd.ready p h) _ c.line_of-l.ensures c.in_default.ensures)

pub opened-requires : goal.opened-requires
unfolding line_of
opened-requires c =
    let pd = passed_by c.args.tables.now c.args.ledger.now c.args.user c.in_ok-first_refusal.ensures in
    let b : c.line_of-l.result.opened < 2 ^ SESSIONS = rw c.line_of-l.ensures pd.bits in
    (c.in-Some.ensures.1, b)

pub put_line-requires : goal.put_line-requires
put_line-requires c =
    let pd = passed_by c.args.tables.now c.args.ledger.now c.args.user c.in_ok-first_refusal.ensures in
    pd.line

pub returns : goal.returns
unfolding line_of
returns c p h =
    let pd = passed_by c.args.tables.now c.args.ledger.now c.args.user c.in_ok-first_refusal.ensures in
    let x = c.in-Some.ensures in
    let e : in_64_bits (256 * c.in-Some.k) ≡ 256 * c.in-Some.k = omega (arith, x.1) in
    rw e
    (open0 SESSIONS p _ _ (pd.ready p h) _ c.line_of-l.ensures _ _ _ x.0 x.1 x.2 c.opened.ensures c.put_line.ensures)
