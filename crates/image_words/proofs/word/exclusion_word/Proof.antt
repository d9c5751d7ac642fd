-- `image_words::word::exclusion_word` meets its contract.
-- Assumes nothing.
use borrow.Author.Rules.{rules}
use Rattle.image_words.specs.Bounds.{Small}
use Rattle.image_words.proofs.word.exclusion_word.Statement.{statement}
use Rattle.image_words.proofs.word.exclusion_word.Tie as tie

returns : tie.Need-returns
unfolding Small
returns c = (cc, search rules)

pub exclusion_word_spec : {M : Type 1} → statement M
exclusion_word_spec = tie.close (tie.spec (λ c. search rules) (λ c κs. search rules) (λ c. search rules) (λ c. search rules) returns)
