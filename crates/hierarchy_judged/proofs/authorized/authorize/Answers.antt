use native.Mathlib.Omega.{arith}
use Rattle.hierarchy_judged.proofs.Reaching.{all_alone, sofar_start, below_users, over_at, sofar_stops, sofar_next, sofar_ends}
use Rattle.hierarchy_judged.proofs.authorized.authorize.Goals as goal

pub returns-then-seniors-eq0 : goal.returns-then-seniors-eq0
returns-then-seniors-eq0 c = all_alone _ _ _ _ _ c.requires.0 c.seniors_in-seniors.ensures c.requires.2 c.if-seniors-eq0.true

pub loop-u-init : goal.loop-u-init
loop-u-init c = sofar_start _ _ _ (omega arith)

pub reach_of-reached-requires : goal.reach_of-reached-requires
reach_of-reached-requires c =
    let l = below_users _ _ _ _ _ c.loop-u.invariant c.loop-u.auto.row-items c.loop-u-test.true in
    over_at _ _ _ _ _ c.loop-u.invariant _ _ l c.seniors_in-seniors.ensures c.requires.2

pub returns-then-size-gt16 : goal.returns-then-size-gt16
returns-then-size-gt16 c =
    let l = below_users _ _ _ _ _ c.loop-u.invariant c.loop-u.auto.row-items c.loop-u-test.true in
    sofar_stops _ _ _ _ _ c.loop-u.invariant _ _ l c.reach_of-reached.ensures c.size.ensures c.if-size-gt16.true _

pub loop-u-preserved : goal.loop-u-preserved
loop-u-preserved c =
    let l = below_users _ _ _ _ _ c.loop-u.invariant c.loop-u.auto.row-items c.loop-u-test.true in
    sofar_next _ _ _ _ _ c.loop-u.invariant _ _ l c.reach_of-reached.ensures c.size.ensures c.if-size-gt16.false

pub returns : goal.returns
returns c = sofar_ends _ _ _ _ _ c.loop-u.invariant (omega (arith, c.loop-u.invariant.size)) _
