-- `asks::ask::ask_roles` meets its contract: refused before the search, or what the search puts in.
-- Assumes nothing.
use mathlib.Core.Path.{refl, sym, ◌∙◌}
use lib.ListN.{length}
use borrow.Author.Rules.{rules}
use Rattle.std.proofs.lemmas.Result.{err_from_is_err_and}
use Rattle.model.specs.Line.{SESSIONS}
use Rattle.model.specs.Session.{is_ask}
use Rattle.model.specs.Run.{told}
use Rattle.sessions.proofs.Reasons.{plain_code}
use Rattle.asks_request.proofs.Requests.{limited-of, coded, passed as passes}
use Rattle.asks.proofs.Asks.{call, ask_refused_lem, answers_searched}
use Rattle.asks.proofs.Rows.{known_of, searched_of}
use Rattle.asks.proofs.ask.ask_roles.Goals as goal

pub returns-in_err-wanted : goal.returns-in_err-wanted
returns-in_err-wanted c p lower upper h e =
    let q = err_from_is_err_and c.from_residual.result c.from_residual.ensures.1 in
    rw (q.1, q.2)
    (ask_refused_lem _ _ _ _ _ lower upper _ _ _ _ _
    (c.in_err-wanted.ensures.refused p (known_of c.args.tables.now p h) (sym h.limits_is) ∙ limited-of _ _ _ _ _ e _ _ _ _ _ _ _ _) (coded _))

pub roles_left-own-requires : goal.roles_left-own-requires
roles_left-own-requires c =
    let w = passes _ _ _ _ _ _ _ _ _ _ _ _ _ _ _ c.in_ok-wanted.ensures.refused refl in
    search rules

pub put_best-requires : goal.put_best-requires
put_best-requires c =
    let w = passes _ _ _ _ _ _ _ _ _ _ _ _ _ _ _ c.in_ok-wanted.ensures.refused refl in
    search rules

pub returns-in_err-put_best : goal.returns-in_err-put_best
unfolding is_ask
returns-in_err-put_best c p lower upper h e =
    let q = err_from_is_err_and c.from_residual-in_err-put_best.result c.from_residual-in_err-put_best.ensures.1 in
    let t = c.args.tables.now in
    let w = passes _ _ _ _ _ _ _ _ _ _ _ _ _ _ _ c.in_ok-wanted.ensures.refused refl in
    let g = c.in_ok-wanted.ensures.given in
    let known = known_of t p h in
    let limits = sym h.limits_is in
    let k = call SESSIONS p c.args.ledger.now c.args.request.who.user c.args.request.who.session lower upper c.args.request.first c.args.request.second
    (length c.args.answer.now) in
    let s = searched_of p _ _ _ _ _ _ _ _ k refl known h.granted_is h.below_is (c.roles_left-own.ensures p _ known limits)
    (w.ready p known limits lower upper e).first in
    rw (q.1, plain_code _ _ q.2)
    (answers_searched p _ _ _ _ _ _ _ _ _ _ _ _ _ _ (w.ready p known limits lower upper e) (w.quiet p known limits k refl refl)
    (g.lower-is ∙ e.lower-is g.lengths) (g.upper_is ∙ e.upper_is g.lengths)
    (rw (g.first_is, g.second_is) at (c.in_err-put_best.ensures p (told SESSIONS p c.args.ledger.now k) s)))

pub returns : goal.returns
unfolding is_ask
returns c p lower upper h e =
    let t = c.args.tables.now in
    let w = passes _ _ _ _ _ _ _ _ _ _ _ _ _ _ _ c.in_ok-wanted.ensures.refused refl in
    let g = c.in_ok-wanted.ensures.given in
    let known = known_of t p h in
    let limits = sym h.limits_is in
    let k = call SESSIONS p c.args.ledger.now c.args.request.who.user c.args.request.who.session lower upper c.args.request.first c.args.request.second
    (length c.args.answer.now) in
    let s = searched_of p _ _ _ _ _ _ _ _ k refl known h.granted_is h.below_is (c.roles_left-own.ensures p _ known limits)
    (w.ready p known limits lower upper e).first in
    (answers_searched p _ _ _ _ _ _ _ _ _ _ _ _ _ _ (w.ready p known limits lower upper e) (w.quiet p known limits k refl refl)
    (g.lower-is ∙ e.lower-is g.lengths) (g.upper_is ∙ e.upper_is g.lengths)
    (rw (g.first_is, g.second_is) at (c.in_ok-put_best.ensures p (told SESSIONS p c.args.ledger.now k) s)))
