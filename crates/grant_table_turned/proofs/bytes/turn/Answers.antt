use Rattle.std.proofs.Common.{arith, rules}
use Rattle.model_laws.proofs.RoundTrip.{are_bytes_lem}
use Rattle.grant_table_turned.proofs.Words.{turn-start, turn-next, turn_last}
use Rattle.grant_table_turned.proofs.bytes.turn.Goals as goal

pub loop-w-init : goal.loop-w-init
loop-w-init c = turn-start c.args.source.now c.args.target.now

pub loop-w-preserved : goal.loop-w-preserved
loop-w-preserved c =
    turn-next c.args.source.now c.args.target.now (are_bytes_lem c.args.source.now (λ i h. omega (arith, c.fits-source i))) c.loop-w.w
    (omega arith) _ _ _ c.numbers-words.ensures c.loop-w.invariant c.put_column.ensures

pub returns : goal.returns
returns c = turn_last c.args.source.now c.args.target.now (search rules) c.loop-w.w (omega arith) (omega arith) _ c.loop-w.invariant
