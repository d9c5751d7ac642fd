-- `image_faults::fault::spared` meets its contract.
-- Assumes nothing.
use borrow.Author.Rules.{rules}
use borrow.Author.Tests.{eq-eqb, ne_eqb}
use Rattle.model.specs.Tests.{pick}
use Rattle.image_faults.proofs.fault.spared.Statement.{statement}
use Rattle.image_faults.proofs.fault.spared.Tie as tie

pub spared_spec : {M : Type 1} → statement M
unfolding pick
spared_spec = tie.close (tie.spec (λ c. search (rules, ne_eqb)) (λ c. search (rules, eq-eqb)))
