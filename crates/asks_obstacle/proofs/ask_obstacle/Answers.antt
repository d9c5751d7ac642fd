-- `asks_obstacle::ask_obstacle` meets its contract: refused as an ask is, or what is found told.
-- Assumes nothing.
use mathlib.Core.Path.{refl, sym, ap, ◌∙◌}
use native.Mathlib.Omega.{arith}
use lib.ListN.{length}
use borrow.Author.Rules.{rules}
use Rattle.std.proofs.lemmas.Result.{err_from_is_err_and}
use Rattle.model.specs.Line.{SESSIONS}
use Rattle.model.specs.Session.{is_ask}
use Rattle.model.specs.Run.{told, line_of}
use Rattle.reasons.specs.Numbers.{refusal_of}
use Rattle.asks_request.proofs.Requests.{limited-of, coded}
use Rattle.asks.proofs.Rows.{known_of, searched_of}
use Rattle.asks_obstacle.proofs.Tellings.{own_of, found_on}
use Rattle.asks_obstacle.proofs.ObstacleCalls.{call, passed_unaimed, obstacle_refused, obstacle_room, shows-told}
use Rattle.asks_obstacle.proofs.ask_obstacle.Goals as goal

pub returns-in_err-wanted : goal.returns-in_err-wanted
returns-in_err-wanted c p lower upper h e =
    let q = err_from_is_err_and c.from_residual.result c.from_residual.ensures.1 in
    rw (q.1, q.2)
    (obstacle_refused _ _ _ _ _ lower upper _ _ _
    (rw (c.requires.0, c.requires.1) at (c.in_err-wanted.ensures.refused p (known_of c.args.tables.now p h) (sym h.limits_is))
    ∙ limited-of _ _ _ _ _ e _ _ _ _ _ _ _ _) (coded _))

pub returns-then-roles-ne16 : goal.returns-then-roles-ne16
unfolding is_ask
returns-then-roles-ne16 c p lower upper h e =
    let t = c.args.tables.now in
    let w = passed_unaimed c.limited_refusal.ensures.refused c.requires.0 c.requires.1 (ap refusal_of c.in_ok-wanted.was) in
    let known = known_of t p h in
    let limits = sym h.limits_is in
    let k = call SESSIONS p c.args.ledger.now c.args.request.who.user c.args.request.who.session lower upper (length c.args.roles.now) in
    rw c.from.ensures
    (obstacle_room SESSIONS p _ _ _ _ _ _ (w.ready p known limits lower upper e) (w.quiet p known limits k refl refl) c.if-roles-ne16.true _)

pub roles_left-free-requires : goal.roles_left-free-requires
roles_left-free-requires c =
    let w = passed_unaimed c.limited_refusal.ensures.refused c.requires.0 c.requires.1 (ap refusal_of c.in_ok-wanted.was) in
    search rules

pub roles_of-own-requires : goal.roles_of-own-requires
roles_of-own-requires c =
    let w = passed_unaimed c.limited_refusal.ensures.refused c.requires.0 c.requires.1 (ap refusal_of c.in_ok-wanted.was) in
    search rules

pub line_of-l-requires : goal.line_of-l-requires
line_of-l-requires c =
    let w = passed_unaimed c.limited_refusal.ensures.refused c.requires.0 c.requires.1 (ap refusal_of c.in_ok-wanted.was) in
    search rules

pub found_for-requires : goal.found_for-requires
found_for-requires c =
    let w = passed_unaimed c.limited_refusal.ensures.refused c.requires.0 c.requires.1 (ap refusal_of c.in_ok-wanted.was) in
    search rules

pub returns : goal.returns
unfolding is_ask line_of
returns c p lower upper h e =
    let t = c.args.tables.now in
    let w = passed_unaimed c.limited_refusal.ensures.refused c.requires.0 c.requires.1 (ap refusal_of c.in_ok-wanted.was) in
    let g = c.in_ok-wanted.ensures.given in
    let known = known_of t p h in
    let limits = sym h.limits_is in
    let q = c.args.request in
    let k = call SESSIONS p c.args.ledger.now q.who.user q.who.session lower upper (length c.args.roles.now) in
    let r = w.ready p known limits lower upper e in
    shows-told p _ _ _ _ _ _ _ _ _ _ _ r (w.quiet p known limits k refl refl) (omega arith) (g.lower-is ∙ e.lower-is g.lengths)
    (g.upper_is ∙ e.upper_is g.lengths)
    (found_on p _ _ _ _ _ _ _ _
    (c.found_for.ensures p (told SESSIONS p c.args.ledger.now k) c.args.ledger.now
    (searched_of p _ _ _ _ _ _ _ _ k refl known h.granted_is h.below_is (c.roles_left-free.ensures p _ known limits) r.first)
    (own_of p _ _ _ _ _ known r.first.below c.roles_of-own.ensures.0 c.roles_of-own.ensures.1) c.line_of-l.ensures) c.line_of-l.ensures)
    c.told.ensures
