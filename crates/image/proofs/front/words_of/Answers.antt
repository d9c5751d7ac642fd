-- `image::front::words_of` meets its contract.
-- Assumes nothing.
use Rattle.std.proofs.Common.{sym, ap, ◌∙◌, arith}
use Rattle.model.specs.Image.{head_right}
use Rattle.image.proofs.Judged.{odd_length, long_length, wrong_head, front_refused, front_right}
use Rattle.image.proofs.front.words_of.Goals as goal

pub returns-then-len-ne0-clause-front : goal.returns-then-len-ne0-clause-front
returns-then-len-ne0-clause-front c = front_refused _ 1 (λ z. omega arith) (odd_length _ c.if-len-ne0.true)

pub returns-then-len-gt-MOST_BYTES-clause-front : goal.returns-then-len-gt-MOST_BYTES-clause-front
returns-then-len-gt-MOST_BYTES-clause-front c =
    front_refused _ 1 (λ z. omega arith) (long_length _ c.if-len-ne0.false (omega arith) c.if-len-gt-MOST_BYTES.true)

pub returns-in_default-clause-front : goal.returns-in_default-clause-front
returns-in_default-clause-front c =
    front_refused _ 2 (λ z. omega arith)
    (wrong_head _ c.if-len-ne0.false (omega arith) c.if-len-gt-MOST_BYTES.false
    (ap head_right (sym c.word_at.ensures) ∙ c.in_default.ensures))

pub returns-clause-front : goal.returns-clause-front
returns-clause-front c =
    front_right _ c.if-len-ne0.false (omega arith) c.if-len-gt-MOST_BYTES.false
    (ap head_right (sym c.word_at.ensures) ∙ c.in-Some.ensures.0)
