-- `image_faults::fault::limit_fault` meets its contract.
-- Assumes nothing.
use borrow.Author.Rules.{rules}
use borrow.Author.Tests.{lt-ltb, le-ltb, le-leb, lt-leb}
use Rattle.model.specs.Tests.{pick}
use Rattle.model.specs.Image.{entry_fault, in_range, repeats, crowds}
use Rattle.image_faults.proofs.fault.limit_fault.Statement.{statement}
use Rattle.image_faults.proofs.fault.limit_fault.Tie as tie

pub limit_fault_spec : {M : Type 1} → statement M
unfolding entry_fault in_range repeats crowds pick
limit_fault_spec =
    tie.close
    (tie.spec (λ c. search (rules, le-ltb)) (λ c. search (rules, lt-ltb, lt-leb)) (λ c. search (rules, lt-ltb, le-leb, lt-leb))
    (λ c. search (rules, lt-ltb, le-leb)))
