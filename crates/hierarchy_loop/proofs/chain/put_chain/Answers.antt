use mathlib.Core.Path.{ap}
use native.Mathlib.Omega.{arith}
use lib.ListN.{length, drop}
use Rattle.hierarchy_loop.proofs.Looping.{below_all, down_none, down_some, down_next, down_end}
use Rattle.hierarchy_loop.proofs.chain.put_chain.Goals as goal

pub loop-i-init : goal.loop-i-init
loop-i-init c = down_none _ _ _ _ c.requires.0 (omega (arith, ap length c.requires.2)) c.requires.4

pub bounds-juniors-a : goal.bounds-juniors-a
bounds-juniors-a c = c.loop-i.invariant.role

pub lowest-b-requires : goal.lowest-b-requires
lowest-b-requires c =
    let l = below_all _ _ _ _ _ _ c.loop-i.invariant c.loop-i.auto.byte-items c.loop-i-test.true in
    down_some _ _ _ _ _ _ _ l (c.requires.3 _ (omega (arith, l))) c.loop-i.invariant

pub loop-i-preserved : goal.loop-i-preserved
loop-i-preserved c =
    let l = below_all _ _ _ _ _ _ c.loop-i.invariant c.loop-i.auto.byte-items c.loop-i-test.true in
    down_next _ _ _ _ _ _ _ l (c.requires.3 _ (omega (arith, l))) c.loop-i.invariant _ c.lowest-b.ensures

pub returns : goal.returns
returns c = down_end _ _ _ _ _ _ _ (omega (arith, c.loop-i.invariant.size)) c.loop-i.invariant (ap (drop c.args.n) c.requires.2)
