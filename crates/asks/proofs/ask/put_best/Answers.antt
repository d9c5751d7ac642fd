-- `asks::ask::put_best` meets its contract: no set is admissible, or the best one is put in and answered.
-- Assumes nothing.
use Rattle.model.specs.Policy.{meaning}
use Rattle.model.specs.Run.{line_of}
use Rattle.exclusion_rows.specs.Table.{exclusions_of}
use Rattle.query.specs.Carry.{rows_of}
use Rattle.query_rank.proofs.Numbers.{stands}
use Rattle.asks.specs.Asks.{Asked}
use Rattle.asks.proofs.Asks.{answers_none, answers_some}
use Rattle.asks.proofs.Rows.{asked_of, chosen_none, chosen_some, chosen_own, carry_within}
use Rattle.asks.proofs.ask.put_best.Goals as goal

pub returns-in_default : goal.returns-in_default
unfolding line_of
returns-in_default c p x g =
    let q : Asked p c.args.who.user x c.line_of.result c.args.who.session c.args.authorized (exclusions_of c.args.tables.now.exclusions)
    (rows_of c.carried-rows.result) =
    asked_of p _ x _ _ _ _ _ _ _ _ g c.ranges.authorized.fits
    (rw (← c.grants.ensures.granted, ← c.grants.ensures.below) c.carried-rows.ensures) c.line_of.ensures in
    answers_none p _ _ _ _ _
    (chosen_none p _ x _ _ c.line_of.ensures _ _ _ _ _ _ (c.best.ensures p _ x _ _ (stands _) (stands _) q) c.in_default.is)

pub returns : goal.returns
unfolding line_of
returns c p x g =
    let q : Asked p c.args.who.user x c.line_of.result c.args.who.session c.args.authorized (exclusions_of c.args.tables.now.exclusions)
    (rows_of c.carried-rows.result) =
    asked_of p _ x _ _ _ _ _ _ _ _ g c.ranges.authorized.fits
    (rw (← c.grants.ensures.granted, ← c.grants.ensures.below) c.carried-rows.ensures) c.line_of.ensures in
    let o = chosen_some p _ x _ _ c.line_of.ensures _ _ _ _ _ _ (c.best.ensures p _ x _ _ (stands _) (stands _) q) _ c.in-Some.is in
    let v = chosen_own p _ x _ _ c.args.authorized _ _ _ _ _ g.own_is o in
    let k = c.carried_by.ensures (meaning p c.args.who.user) (carry_within p _ _ _ _ q.carry v) in
    answers_some p _ _ _ _ _ _ _ _ _ _ _ o k c.line_of.ensures c.put_in.ensures c.put_line.ensures c.fill.ensures
