-- `asks_clauses::ask_clauses` meets its contract: refused as an ask is, or what the text's length tells.
-- Assumes nothing.
use mathlib.Core.Path.{refl, sym, ◌∙◌}
use lib.ListN.{length}
use borrow.Author.Rules.{rules}
use Rattle.std.proofs.lemmas.Result.{err_from_is_err_and}
use Rattle.model.specs.Line.{SESSIONS}
use Rattle.model.specs.Session.{is_ask}
use Rattle.model.specs.Run.{told, line_of}
use Rattle.asks_request.proofs.Requests.{limited-of, coded, passed as passes}
use Rattle.asks.proofs.Rows.{known_of, searched_of}
use Rattle.asks_clauses.proofs.TextCalls.{call, clauses_refused, tells_text}
use Rattle.asks_clauses.proofs.ask_clauses.Goals as goal

pub returns-in_err-wanted : goal.returns-in_err-wanted
returns-in_err-wanted c p lower upper range h e =
    let q = err_from_is_err_and c.from_residual.result c.from_residual.ensures.1 in
    rw (q.1, q.2)
    (clauses_refused _ _ _ _ _ lower upper _ _ _ _ _
    (c.in_err-wanted.ensures.refused p (known_of c.args.tables.now p h) (sym h.limits_is) ∙ limited-of _ _ _ _ _ e _ _ _ _ _ _ _ _) (coded _))

pub roles_left-own-requires : goal.roles_left-own-requires
roles_left-own-requires c =
    let w = passes _ _ _ _ _ _ _ _ _ _ _ _ _ _ _ c.in_ok-wanted.ensures.refused refl in
    search rules

pub line_of-l-requires : goal.line_of-l-requires
line_of-l-requires c =
    let w = passes _ _ _ _ _ _ _ _ _ _ _ _ _ _ _ c.in_ok-wanted.ensures.refused refl in
    search rules

pub write_clauses-size-requires : goal.write_clauses-size-requires
write_clauses-size-requires c =
    let w = passes _ _ _ _ _ _ _ _ _ _ _ _ _ _ _ c.in_ok-wanted.ensures.refused refl in
    search rules

pub returns : goal.returns
unfolding is_ask line_of
returns c p lower upper range h e =
    let t = c.args.tables.now in
    let w = passes _ _ _ _ _ _ _ _ _ _ _ _ _ _ _ c.in_ok-wanted.ensures.refused refl in
    let g = c.in_ok-wanted.ensures.given in
    let known = known_of t p h in
    let limits = sym h.limits_is in
    let q = c.args.request in
    let r = w.ready p known limits lower upper e in
    let k = call SESSIONS p c.args.ledger.now q.who.user q.who.session lower upper q.first q.second (length c.args.out.now) in
    tells_text p _ _ _ _ _ _ _ _ _ _ _ _ _ range r (w.quiet p known limits k refl refl) (g.lower-is ∙ e.lower-is g.lengths)
    (g.upper_is ∙ e.upper_is g.lengths) c.line_of-l.ensures
    (rw (g.first_is, g.second_is) at (c.write_clauses-size.ensures p (told SESSIONS p c.args.ledger.now k) c.args.ledger.now range h.head_is
    (searched_of p _ _ _ _ _ _ _ _ k refl known h.granted_is h.below_is (c.roles_left-own.ensures p _ known limits) r.first) c.line_of-l.ensures))
    c.told.ensures
