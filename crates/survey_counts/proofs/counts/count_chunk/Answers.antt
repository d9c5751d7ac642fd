use borrow.Author.Rules.{rules}
use mathlib.Core.Path.{refl, ap, ◌∙◌}
use Prim.Native.Nat.{◌<◌}
use native.Mathlib.Omega.{arith}
use lib.ListN.{length}
use Rattle.script_input.specs.Kept.{lines_from}
use Rattle.survey_counts.specs.Counting.{tally}
use Rattle.survey_counts.proofs.CountLaws.{is_counted, behind_chunk}
use Rattle.survey_counts.proofs.counts.count_chunk.Goals as goal

pub loop-next-init : goal.loop-next-init
loop-next-init c = (search rules, search rules, search rules, c.requires.0, λ more. refl)

pub returns-then-chunk-end : goal.returns-then-chunk-end
returns-then-chunk-end c =
    record {
      counted = omega (arith, c.loop-next.invariant.1, c.loop-next.invariant.0);
      most = c.loop-next.invariant.3;
      size = c.loop-next.invariant.2;
      same =
          λ more. c.loop-next.invariant.4 more
          ∙ ap (tally c.args.image.now c.loop-next.ledger c.loop-next.counts)
          (c.gather-end.ensures.same more ∙ ap (lines_from c.gather-end.new.self)
          (behind_chunk c.args.chunk.now c.gather-end.result more (search rules) c.gather-end.ensures.inside));
    }

pub count_line-calls-requires : goal.count_line-calls-requires
count_line-calls-requires c =
    (c.loop-next.invariant.3, omega (arith, c.loop-next.invariant.1, c.gather-end.ensures.onward, c.if-chunk-end.false, c.requires.1))

pub loop-next-smaller : goal.loop-next-smaller
loop-next-smaller c =
    omega (arith, c.if-chunk-end.false, c.gather-end.ensures.onward)

pub loop-next-preserved : goal.loop-next-preserved
loop-next-preserved c =
    let h : c.gather-end.result < length c.args.chunk.now = omega (arith, c.if-chunk-end.false) in (
      omega (arith, h),
      omega (arith, c.count_line-calls.ensures.0, c.gather-end.ensures.onward, c.loop-next.invariant.1),
      omega (arith, c.count_line-calls.auto, c.loop-next.invariant.2),
      c.count_line-calls.ensures.3,
      λ more. c.loop-next.invariant.4 more
          ∙ ap (tally c.args.image.now c.loop-next.ledger c.loop-next.counts) (c.gather-end.ensures.same more)
          ∙ is_counted c.args.image.now c.args.chunk.now c.gather-end.result c.gather-end.new.self _ _
          c.loop-next.ledger c.loop-next.counts _ _ h (c.gather-end.ensures.newline h) c.bytes.ensures.0 c.clear.ensures
          c.count_line-calls.ensures.1 c.count_line-calls.ensures.2 more,
    )

pub returns : goal.returns
returns c =
    record {
      counted = omega (arith, c.loop-next.invariant.1, c.loop-next.invariant.0);
      most = c.loop-next.invariant.3;
      size = c.loop-next.invariant.2;
      same =
          λ more. c.loop-next.invariant.4 more
          ∙ ap (λ x. tally c.args.image.now c.loop-next.ledger c.loop-next.counts (lines_from c.loop-next.line x))
          (behind_chunk c.args.chunk.now c.loop-next.next more (search rules) c.loop-next.invariant.0);
    }
