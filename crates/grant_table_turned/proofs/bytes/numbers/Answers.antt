use Rattle.std.proofs.Common.{◌+◌, ◌*◌, ◌≤◌, rules, arith}
use Rattle.std.proofs.Math.Nat.{mul-le-mul_left}
use Rattle.octets.specs.Splice.{number_at}
use Rattle.model_laws.proofs.TableLaws.{fill_next}
use Rattle.grant_table_turned.proofs.bytes.numbers.Goals as goal

pub get_u64-requires : goal.get_u64-requires
get_u64-requires c =
    let i : c.loop-i.i ≤ 63 = omega arith in
    let m = mul-le-mul_left c.args.step i in
    omega arith

pub loop-i-init : goal.loop-i-init
loop-i-init c = (search rules, λ j h. absurd (omega arith))

pub loop-i-preserved : goal.loop-i-preserved
loop-i-preserved c = (
  search rules,
  fill_next (λ i. number_at c.args.source.now (c.args.from + c.args.step * i)) c.loop-i.number-items c.loop-i.i c.get_u64.result
      (omega arith) c.loop-i.invariant.1 c.get_u64.ensures,
)

pub returns : goal.returns
returns c = λ r h. c.loop-i.invariant.1 r (omega arith)
