-- `tidy_words::words::Writer::put_word` meets its contract.
-- Assumes nothing.
use Rattle.std.proofs.Common.{◌+◌, ◌%◌, ◌^◌, refl, ap, ◌∙◌}
use Rattle.octets.specs.Splice.{splice}
use Rattle.tidy_words.specs.Buffers.{put_word, puts}
use Rattle.tidy_words.proofs.Writing.{bytes_of_word}
use Rattle.tidy_words.proofs.words.Writer.put_word.Goals as goal

pub returns : goal.returns
unfolding put_word puts
returns c =
    let old = c.args.self.now in
    let stored = c.put.ensures ∙ ap (splice old.out.now old.at) (c.to_le_bytes-bytes.ensures ∙ bytes_of_word c.args.w) in
    record { same_bytes = refl; words = λ i. record { bytes = stored i; at = old.at + 4; sum = (old.sum + c.args.w) % 2 ^ 32 } }
