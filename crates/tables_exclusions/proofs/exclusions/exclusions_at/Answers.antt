use mathlib.Core.Path.{◌≡◌, sym, ap, ◌∙◌}
use mathlib.Core.List.{map}
use Prim.Native.Nat.{ℕ}
use native.Mathlib.Omega.{arith}
use lib.ListN.{length, take}
use Rattle.std.proofs.lemmas.List.{take_all}
use Rattle.tables_exclusions.specs.Exclusions.{exclusion_at}
use Rattle.tables_exclusions.proofs.Members.{one_read}
use Rattle.tables_exclusions.proofs.exclusions.exclusions_at.Goals as goal

pub loop-i-preserved : goal.loop-i-preserved
loop-i-preserved c =
    one_read (exclusion_at c.args.image.now.bytes.now c.args.image.now.count) c.args.places.now c.loop-i.table.rows c.loop-i.i _
    c.loop-i.invariant (omega (arith, c.loop-i.table.few)) c.loop-i-test.true c.exclusion_at.ensures

pub returns : goal.returns
returns c =
    let e : c.loop-i.i ≡ length c.args.places.now = omega (arith, c.loop-i.auto.i-end) in
    let f = exclusion_at c.args.image.now.bytes.now c.args.image.now.count in
    ap (λ (n : ℕ). take n c.loop-i.table.rows) (sym e)
    ∙ c.loop-i.invariant
    ∙ ap (λ (n : ℕ). map f (take n c.args.places.now)) e
    ∙ ap (map f) (take_all (length c.args.places.now) c.args.places.now (omega arith))
