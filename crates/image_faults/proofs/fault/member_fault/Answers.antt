-- `image_faults::fault::member_fault` meets its contract.
-- Assumes nothing.
use mathlib.Core.Path.{sym, ◌∙◌}
use borrow.Author.Rules.{rules}
use borrow.Author.Tests.{lt-ltb, le-ltb}
use Rattle.model.specs.Tests.{pick}
use Rattle.model.specs.Image.{entry_fault, in_range, repeats, crowds}
use Rattle.image_faults.proofs.fault.member_fault.Goals as goal

pub returns-then-h-r : goal.returns-then-h-r
unfolding entry_fault in_range repeats crowds pick
returns-then-h-r c = search (rules, le-ltb)

pub returns-then-has : goal.returns-then-has
unfolding entry_fault in_range repeats crowds pick
returns-then-has c = search (rules, lt-ltb, sym c.has.ensures ∙ c.if-has.true)

pub returns : goal.returns
unfolding entry_fault in_range repeats crowds pick
returns c = search (rules, lt-ltb, sym c.has.ensures ∙ c.if-has.false)
