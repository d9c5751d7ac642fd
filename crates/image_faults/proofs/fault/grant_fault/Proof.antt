-- `image_faults::fault::grant_fault` meets its contract.
-- Assumes nothing.
use borrow.Author.Rules.{rules}
use borrow.Author.Tests.{lt-ltb, le-ltb}
use Rattle.model.specs.Tests.{pick}
use Rattle.model.specs.Image.{entry_fault, in_range, repeats, crowds}
use Rattle.image_faults.proofs.fault.grant_fault.Statement.{statement}
use Rattle.image_faults.proofs.fault.grant_fault.Tie as tie

pub grant_fault_spec : {M : Type 1} → statement M
unfolding entry_fault in_range repeats crowds pick
grant_fault_spec =
    tie.close (tie.spec (λ c. search (rules, le-ltb)) (λ c. search rules) (λ c. search (rules, lt-ltb, le-ltb)) (λ c. search (rules, lt-ltb)))
