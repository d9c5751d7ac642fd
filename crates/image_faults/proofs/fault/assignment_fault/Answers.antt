-- `image_faults::fault::assignment_fault` meets its contract.
-- Assumes nothing.
use mathlib.Core.Path.{sym, ◌∙◌}
use borrow.Author.Rules.{rules}
use borrow.Author.Tests.{lt-ltb, le-ltb, le-leb, lt-leb}
use Rattle.model.specs.Tests.{pick}
use Rattle.model.specs.Image.{entry_fault, in_range, repeats, crowds}
use Rattle.image_faults.proofs.fault.assignment_fault.Goals as goal

pub returns-then-h-u : goal.returns-then-h-u
unfolding entry_fault in_range repeats crowds pick
returns-then-h-u c = search (rules, le-ltb)

pub returns-then-h-r : goal.returns-then-h-r
unfolding entry_fault in_range repeats crowds pick
returns-then-h-r c = search (rules, lt-ltb, le-ltb)

pub returns-then-has : goal.returns-then-has
unfolding entry_fault in_range repeats crowds pick
returns-then-has c = search (rules, lt-ltb, sym c.has.ensures ∙ c.if-has.true)

pub returns-then-size-lt16 : goal.returns-then-size-lt16
unfolding entry_fault in_range repeats crowds pick
returns-then-size-lt16 c =
    let h = sym c.has.ensures ∙ c.if-has.false in search (rules, lt-ltb, h, ← c.size.ensures, lt-leb)

pub returns : goal.returns
unfolding entry_fault in_range repeats crowds pick
returns c =
    let h = sym c.has.ensures ∙ c.if-has.false in search (rules, lt-ltb, h, ← c.size.ensures, le-leb)
