use Rattle.std.proofs.Common.{rules, arith}
use Rattle.grant_table_turned.proofs.Parts.{back_start, back_next, back_last}
use Rattle.grant_table_turned.proofs.bytes.unturn.Goals as goal

pub loop-r-init : goal.loop-r-init
loop-r-init c = search (rules, back_start)

pub loop-r-preserved : goal.loop-r-preserved
loop-r-preserved c =
    back_next c.args.source.now c.args.target.now c.part.result c.part-2.result c.part-3.result c.part-4.result c.part.ensures
    c.part-2.ensures c.part-3.ensures c.part-4.ensures c.loop-r.r (omega arith) c.loop-r.target
    c.put_numbers.new.s c.loop-r.invariant c.put_numbers.ensures

pub returns : goal.returns
returns c = search (rules, back_last)
