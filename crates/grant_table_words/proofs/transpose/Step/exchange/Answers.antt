use Rattle.std.proofs.Common.{◌≡◌, ◌+◌, ◌*◌, rules, arith}
use Rattle.grant_table_words.proofs.Blocks.{marked_first, marked_next, block_fits, rows-go}
use Rattle.grant_table_words.proofs.transpose.Step.exchange.Goals as goal

pub loop-from-init : goal.loop-from-init
loop-from-init c = (search rules, search rules, marked_first _ _ (search rules), λ i h. absurd (omega arith))

pub block-requires : goal.block-requires
block-requires c = (search (rules, block_fits), c.loop-from.invariant.2)

pub loop-from-preserved : goal.loop-from-preserved
loop-from-preserved c =
    let twice : c.loop-from.from + 2 * c.args.self.distance ≡ c.loop-from.from + c.args.self.distance + c.args.self.distance = omega arith in
    rw twice (
      search (rules, block_fits),
      c.block.ensures.size,
      marked_next _ _ (search rules) _ c.loop-from.invariant.2,
      rows-go _ _ _ _ _ _ c.loop-from.invariant.3 c.block.ensures,
    )

pub returns : goal.returns
returns c = (λ k h. c.loop-from.invariant.3 k (omega arith), c.loop-from.invariant.1)
