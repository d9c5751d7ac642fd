use borrow.Author.Rules.{rules}
use mathlib.Core.Path.{refl, ap, ◌∙◌}
use Prim.Native.Nat.{◌≤◌, ◌<◌}
use native.Mathlib.Omega.{arith}
use lib.ListN.{length}
use Rattle.script_text.specs.Writing.{written}
use Rattle.script_text.proofs.TextLaws.{written-more}
use Rattle.script_answers.specs.Buffers.{outcome}
use Rattle.script_answers.proofs.Steps.{is_answered}
use Rattle.script_answers.proofs.lines.answer_lines.Goals as goal

pub loop-text-init : goal.loop-text-init
loop-text-init c = (
  search rules,
  search rules,
  λ h. absurd (omega (arith, h)),
  search rules,
  record { same_buffer = refl; size = refl; room = omega (arith, c.requires.1) },
  λ more. refl,
)

pub returns-then-chunk-end : goal.returns-then-chunk-end
returns-then-chunk-end c = (
  c.loop-text.invariant.4,
  record {
    onward = omega (arith, c.if-chunk-end.true, c.requires.0);
    inside = c.gather-end.ensures.inside;
    counted = omega (arith, c.gather-end.ensures.onward, c.loop-text.invariant.3);
    same =
        λ more. c.loop-text.invariant.5 more
        ∙ ap (outcome c.args.image.now c.loop-text.ledger c.loop-text.calls (written c.loop-text.text)) (c.gather-end.ensures.same more);
  },
)

pub overflow_add-calls : goal.overflow_add-calls
overflow_add-calls c =
    omega (arith, c.if-chunk-end.false, c.gather-end.ensures.onward, c.loop-text.invariant.3, c.requires.2)

pub loop-text-smaller : goal.loop-text-smaller
loop-text-smaller c =
    omega (arith, c.if-chunk-end.false, c.gather-end.ensures.onward)

pub loop-text-preserved : goal.loop-text-preserved
loop-text-preserved c =
    let h : c.gather-end.result < length c.args.chunk.now = omega (arith, c.if-chunk-end.false) in
    let w = c.respond.ensures.0 in
    let g = c.loop-text.invariant.4 in
    let n : c.respond.new.text.at ≤ length c.loop-text.text.out.now = omega (arith, c.respond.ensures.1, c.loop-text-test.true, g.room) in (
      omega (arith, c.gather-end.ensures.onward, c.loop-text.invariant.0),
      omega (arith, h),
      λ m. omega (arith, c.gather-end.ensures.onward, c.loop-text.invariant.0),
      omega (arith, c.gather-end.ensures.onward, c.loop-text.invariant.3),
      record { same_buffer = w.same_buffer ∙ g.same_buffer; size = w.size ∙ g.size; room = omega (arith, n, w.size) },
      λ more. c.loop-text.invariant.5 more
          ∙ ap (outcome c.args.image.now c.loop-text.ledger c.loop-text.calls (written c.loop-text.text)) (c.gather-end.ensures.same more)
          ∙ is_answered c.args.image.now c.args.chunk.now c.gather-end.result c.gather-end.new.self _ _ c.loop-text.ledger _ c.loop-text.calls _ _
          h (c.gather-end.ensures.newline h) c.bytes.ensures.0 c.clear.ensures (written-more g.room n w) c.respond.ensures.2 more,
    )

pub returns : goal.returns
returns c =
    let m : c.args.text.now.at < c.loop-text.text.at = omega (arith, c.loop-text-test.false, c.loop-text.invariant.4.size, c.requires.1) in (
      c.loop-text.invariant.4,
      record {
        onward = c.loop-text.invariant.2 m;
        inside = c.loop-text.invariant.1;
        counted = c.loop-text.invariant.3;
        same = c.loop-text.invariant.5;
      },
    )
