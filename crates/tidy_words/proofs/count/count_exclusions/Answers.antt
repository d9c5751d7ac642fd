use Rattle.std.proofs.Common.{◌<◌, length, ap, arith}
use Rattle.std.proofs.lemmas.List.{length-take}
use Rattle.exclusion_rows.specs.Table.{exclusion_list}
use Rattle.tidy_words.proofs.Turns.{listed_count, listed_end}
use Rattle.tidy_words.proofs.count.count_exclusions.Goals as goal

pub loop-x-preserved : goal.loop-x-preserved
loop-x-preserved c =
    let xs = c.args.xs.now in
    let t : c.loop-x.x-index < length (exclusion_list xs) = rw (← c.listed-x-items.ensures) c.loop-x-test.true in
    let l = length-take xs.count xs.rows in
    let k = listed_count c.listed-x-items.result.now c.loop-x.x-index c.loop-x-test.true _ _ c.size.ensures in
    (omega arith, omega (arith, xs.few), omega (arith, k))

pub returns : goal.returns
returns c =
    let k = ap length (listed_end c.listed-x-items.result.now c.loop-x.x-index c.loop-x-test.false) in
    rw (← c.listed-x-items.ensures) (omega arith, omega (arith, k))
