-- `asks_request::request::bounds_refusal` meets its contract: each return is answered by the law of the tests that led
-- there.
-- Assumes nothing.
use Rattle.std.proofs.lemmas.Result.{err_from_is_err_and}
use Rattle.asks_request.proofs.Requests.{bounds16_lower, bounds16_upper, bounds17, bounds18_first, bounds18_second, bounds19, bounds0, aim_small}
use Rattle.asks_request.proofs.request.bounds_refusal.Goals as goal
use Rattle.asks_request.proofs.request.bounds_refusal.Goals.{then-not-below-via-then-not-below, then-not-below-via-else-not-below+then-not-below-2}

pub returns-then-not-below-clause-refused : goal.returns-then-not-below-clause-refused
returns-then-not-below-clause-refused c =
    elim c.then-not-below.branch [
      | then-not-below-via-then-not-below w ↦ bounds16_lower _ _ _ _ _ _ _ c.below.ensures w.if-not-below.true
      | then-not-below-via-else-not-below+then-not-below-2 w ↦
          bounds16_upper _ _ _ _ _ _ _ c.below.ensures w.if-not-below.false _ w.below-else-not-below.ensures w.if-not-below-2.true
    ]

pub returns-then-not-perm_within-clause-refused : goal.returns-then-not-perm_within-clause-refused
returns-then-not-perm_within-clause-refused c =
    bounds17 _ _ _ _ _ _ _ c.below.ensures c.if-not-below.false _ c.below-else-not-below.ensures c.if-not-below-2.false _ c.perm_within.ensures
    c.if-not-perm_within.true

pub returns-in_err-first-clause-refused : goal.returns-in_err-first-clause-refused
returns-in_err-first-clause-refused c =
    let p = err_from_is_err_and c.from_residual.result c.from_residual.ensures.1 in
    rw (p.1, p.2, c.in_err-first.ensures.0)
    (bounds18_first _ _ _ _ _ _ _ c.below.ensures c.if-not-below.false _ c.below-else-not-below.ensures c.if-not-below-2.false _ c.perm_within.ensures
    c.if-not-perm_within.false c.in_err-first.ensures.1)

pub returns-in_err-second-clause-refused : goal.returns-in_err-second-clause-refused
returns-in_err-second-clause-refused c =
    let p = err_from_is_err_and c.from_residual-in_err-second.result c.from_residual-in_err-second.ensures.1 in
    rw (p.1, p.2, c.in_err-second.ensures.0)
    (bounds18_second _ _ _ _ _ _ _ c.below.ensures c.if-not-below.false _ c.below-else-not-below.ensures c.if-not-below-2.false _ c.perm_within.ensures
    c.if-not-perm_within.false (aim_small _ _ c.in_ok-first.ensures) c.in_err-second.ensures.1)

pub returns-then-room-ne40-clause-refused : goal.returns-then-room-ne40-clause-refused
returns-then-room-ne40-clause-refused c =
    bounds19 _ _ _ _ _ _ _ c.below.ensures c.if-not-below.false _ c.below-else-not-below.ensures c.if-not-below-2.false _ c.perm_within.ensures
    c.if-not-perm_within.false (aim_small _ _ c.in_ok-first.ensures) (aim_small _ _ c.in_ok-second.ensures) c.if-room-ne40.true

pub returns-clause-refused : goal.returns-clause-refused
returns-clause-refused c =
    bounds0 _ _ _ _ _ _ _ c.below.ensures c.if-not-below.false _ c.below-else-not-below.ensures c.if-not-below-2.false _ c.perm_within.ensures
    c.if-not-perm_within.false (aim_small _ _ c.in_ok-first.ensures) (aim_small _ _ c.in_ok-second.ensures) c.if-room-ne40.false
