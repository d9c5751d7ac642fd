-- `image_words::word::head_of` meets its contract.
-- Assumes nothing.
use Rattle.model.specs.Image.{head_of}
use borrow.Author.Rules.{rules}
use Rattle.image_words.proofs.word.head_of.Statement.{statement}
use Rattle.image_words.proofs.word.head_of.Tie as tie

returns : tie.Need-returns
unfolding head_of
returns c = cc

pub head_of_spec : {M : Type 1} → statement M
head_of_spec = tie.close (tie.spec (λ c. search rules) (λ c. search rules) (λ c. search rules) returns)
