-- `tidy_words::words::Writer::put_limit` meets its contract: no word, or one.
-- Assumes nothing.
use Rattle.std.proofs.Common.{ℕ, [], ◌∷◌, refl, subst, arith}
use Rattle.tidy_words.specs.Buffers.{puts, Puts}
use Rattle.model.specs.Words.{limit_word}
use Rattle.tidy_words.proofs.Limiting.{limit_none, limit_some}
use Rattle.tidy_words.proofs.words.Writer.put_limit.Goals as goal

pub put_word-requires : goal.put_word-requires
put_word-requires c = rw (limit_some c.args.r.0 c.args.t c.if-t-ne0.true) at c.requires.2

pub returns-then-t-ne0 : goal.returns-then-t-ne0
unfolding limit_word
returns-then-t-ne0 c =
    rw (limit_some c.args.r.0 c.args.t c.if-t-ne0.true)
    (subst (λ (w : ℕ). Puts c.args.self.now c.put_word.new.self (w ∷ [])) (omega arith) c.put_word.ensures)

pub returns-else-t-ne0 : goal.returns-else-t-ne0
unfolding puts
returns-else-t-ne0 c = let z = limit_none c.args.r.0 c.args.t c.if-t-ne0.false in rw z (record { same_bytes = refl; words = refl })
