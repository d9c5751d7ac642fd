-- `image_faults::fault::exclusion_fault` meets its contract.
-- Assumes nothing.
use borrow.Author.Rules.{rules}
use borrow.Author.Tests.{le-leb, lt-leb}
use Rattle.model.specs.Tests.{pick}
use Rattle.model.specs.Image.{entry_fault, in_range, repeats, crowds}
use Rattle.image_faults.proofs.fault.exclusion_fault.Statement.{statement}
use Rattle.image_faults.proofs.fault.exclusion_fault.Tie as tie

pub exclusion_fault_spec : {M : Type 1} → statement M
unfolding entry_fault in_range repeats crowds pick
exclusion_fault_spec =
    tie.close
    (tie.spec (λ c. search (rules, lt-leb)) (λ c. search (rules, le-leb, lt-leb)) (λ c. search (rules, le-leb, lt-leb))
    (λ c. search (rules, le-leb, lt-leb)) (λ c. search (rules, le-leb)) (λ c. search (rules, le-leb, lt-leb)))
