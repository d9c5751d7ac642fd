-- `tables_words::take::lesser` meets its contract.
-- Assumes nothing.
use borrow.Author.Rules.{rules}
use borrow.Author.Tests.{eq-eqb, ne_eqb, lt-ltb, le-ltb}
use Rattle.model.specs.Tests.{pick}
use Rattle.model.specs.Policy.{lesser}
use Rattle.tables_words.proofs.take.lesser.Statement.{statement}
use Rattle.tables_words.proofs.take.lesser.Tie as tie

pub lesser_spec : {M : Type 1} → statement M
unfolding lesser pick
lesser_spec = tie.close (tie.spec (λ c. search (rules, eq-eqb)) (λ c. search (rules, ne_eqb, lt-ltb)) (λ c. search (rules, ne_eqb, le-ltb)))
