-- `exclusion_rows::number_of` meets its contract.
-- Assumes nothing.
use borrow.Author.Rules.{rules}
use Rattle.model.specs.Policy.{kind_number}
use Rattle.exclusion_rows.proofs.number_of.Statement.{statement}
use Rattle.exclusion_rows.proofs.number_of.Tie as tie

pub number_of_spec : {M : Type 1} → statement M
unfolding kind_number
number_of_spec =
    tie.close
    (tie.spec (λ c. search rules) (λ c. search rules) (λ c. search rules) (λ c. search rules) (λ c. search rules) (λ c. search rules)
    (λ c. search rules) (λ c. search rules))
