-- `image_faults::fault::senior_fault` meets its contract.
-- Assumes nothing.
use mathlib.Core.Path.{sym, ◌∙◌}
use borrow.Author.Rules.{rules}
use borrow.Author.Tests.{lt-ltb, le-ltb}
use Rattle.model.specs.Tests.{pick}
use Rattle.model.specs.Image.{entry_fault, in_range, repeats, crowds}
use Rattle.image_faults.proofs.fault.senior_fault.Goals as goal

pub returns-then-h-a : goal.returns-then-h-a
unfolding entry_fault in_range repeats crowds pick
returns-then-h-a c = search (rules, lt-ltb, le-ltb)

pub returns-then-h-b : goal.returns-then-h-b
unfolding entry_fault in_range repeats crowds pick
returns-then-h-b c = search (rules, lt-ltb, le-ltb)

pub returns-then-eq : goal.returns-then-eq
unfolding entry_fault in_range repeats crowds pick
returns-then-eq c = search (rules, lt-ltb, sym c.eq.ensures ∙ c.if-eq.true)

pub returns : goal.returns
unfolding entry_fault in_range repeats crowds pick
returns c = search (rules, lt-ltb, sym c.eq.ensures ∙ c.if-eq.false)
