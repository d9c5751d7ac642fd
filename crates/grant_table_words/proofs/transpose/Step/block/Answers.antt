use Rattle.std.proofs.Common.{◌≡◌, ◌+◌, rules, arith}
use Rattle.grant_table_words.proofs.Blocks.{block_starts, block_goes}
use Rattle.grant_table_words.proofs.transpose.Step.block.Goals as goal

pub loop-k-init : goal.loop-k-init
loop-k-init c = search (rules, block_starts)

pub pair-requires : goal.pair-requires
pair-requires c = (omega arith, c.requires.1 c.loop-k.k (omega arith) (omega arith) (omega arith))

pub loop-k-preserved : goal.loop-k-preserved
loop-k-preserved c = (
  omega arith,
  block_goes _ _ _ _ _ _ _ _ (omega arith) (omega arith) (search rules) (search rules) c.loop-k.invariant.1 c.pair.ensures,
)

pub returns : goal.returns
returns c =
    let e : c.loop-k.k ≡ c.args.from + c.args.self.distance = omega arith in
    rw e at c.loop-k.invariant.1
