-- `tidy_words::image::head_word` meets its contract.
-- Assumes nothing.
use Rattle.std.proofs.Common.{rules}
use Rattle.model.specs.Words.{head_word}
use Rattle.tidy_words.proofs.image.head_word.Goals as goal

pub returns : goal.returns
unfolding head_word
returns c = search rules
