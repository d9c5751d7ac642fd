use native.Mathlib.Omega.{arith}
use Rattle.tables_rows.proofs.Explaining.{seeks_start, seeks_end, seeks_found, seeks_next, explains_found, explains_none, unnamed, granter_small}
use Rattle.tables_rows.proofs.explain.first_carrier.Goals as goal

pub loop-k-init : goal.loop-k-init
loop-k-init c =
    rw (c.into_iter-k-iterator.ensures.into_iter_gives, c.members-k-items.ensures) (seeks_start _ _ c.ranges.set.fits)

pub returns-in-Some-granter : goal.returns-in-Some-granter
returns-in-Some-granter c =
    let low = c.in-Some.ensures.steps.lowest in (
      explains_found _ _ _ _ c.in-Some-granter.ensures (seeks_found _ _ _ _ c.loop-k.invariant low),
      omega (arith, low.small, granter_small _ _ _ _ c.in-Some-granter.ensures),
    )

pub loop-k-preserved : goal.loop-k-preserved
loop-k-preserved c =
    let t = c.in-Some.ensures.steps in
    seeks_next _ _ _ _ c.loop-k.invariant t.lowest (unnamed _ c.in_default.ensures) _ t.rest

pub returns : goal.returns
returns c = (explains_none _ _ (seeks_end _ _ _ c.in-None.ensures.steps.0 c.loop-k.invariant), tt)
