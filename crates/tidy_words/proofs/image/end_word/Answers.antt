-- `tidy_words::image::end_word` meets its contract.
-- Assumes nothing.
use Rattle.std.proofs.Common.{rules}
use Rattle.model.specs.Words.{end_word}
use Rattle.tidy_words.proofs.image.end_word.Goals as goal

pub returns : goal.returns
unfolding end_word
returns c = search rules
