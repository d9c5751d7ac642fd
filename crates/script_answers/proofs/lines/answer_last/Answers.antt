-- The last line is answered where it has a byte.
-- Assumes nothing.
use borrow.Author.Rules.{rules}
use Prim.Native.Nat.{◌≤◌}
use native.Mathlib.Omega.{arith}
use lib.ListN.{length}
use Rattle.script_text.proofs.TextLaws.{written-more}
use Rattle.script_answers.proofs.Steps.{last_answered}
use Rattle.script_answers.proofs.lines.answer_last.Goals as goal

pub returns : goal.returns
returns c =
    let w = c.respond.ensures.0 in
    let n : c.respond.new.text.at ≤ length c.args.text.now.out.now = omega (arith, c.respond.ensures.1, c.requires.0) in (
      record { same_buffer = w.same_buffer; size = w.size; room = omega (arith, n, w.size) },
      last_answered c.args.image.now c.args.ledger.now c.args.calls _ _ c.args.line.now _ c.bytes-bytes.ensures.0 (search rules)
          (written-more (omega (arith, c.requires.0)) n w),
    )
