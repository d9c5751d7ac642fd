use mathlib.Core.Path.{◌≡◌, ap, ◌∙◌}
use Prim.Native.Nat.{◌+◌, ◌*◌, ◌^◌, ◌<◌}
use native.Mathlib.Nat.{pow-suc}
use native.Mathlib.Numerals.{add-one}
use native.Mathlib.Omega.{arith}
use Rattle.model.specs.Sets.{one}
use Rattle.limits_counts.proofs.Planes.{digit_of, placed, read_next, read_all}
use Rattle.limits_counts.proofs.Counts.of.Goals as goal

pub loop-i-preserved : goal.loop-i-preserved
loop-i-preserved c =
    let i = c.loop-i.i in
    let b = c.from.result in
    let d = digit_of c.has.result b c.from.ensures in
    let p = placed b i d.1 (omega arith) in
    let w : 2 ^ (i + 1) ≡ 2 ^ i * 2 = rw (add-one i) (pow-suc 2 i) in
    let l : i < 10 = c.loop-i-test.true in
    let n = read_next c.args.self.planes i c.loop-i.count b c.args.r.0 (omega (arith, l)) (d.0 ∙ ap one c.has.ensures) in
    rw p.0 (n ∙ c.loop-i.invariant.0, omega (arith, p.1, w, c.loop-i.invariant.1))

pub returns : goal.returns
returns c = read_all c.args.self.planes c.loop-i.i c.loop-i.count c.args.r.0 (omega arith) ∙ c.loop-i.invariant.0
