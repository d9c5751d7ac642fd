-- A line for each user of an accepted image, of whom there are at most 64.
-- Assumes nothing.
use borrow.Author.Rules.{rules}
use mathlib.Core.Path.{sym, ap, ◌∙◌}
use Rattle.reasons.specs.Numbers.{checked_of}
use Rattle.model.specs.Line.{line_size}
use Rattle.script_input.proofs.Steps.{refused-length, accepted_length, accepted_most}
use Rattle.script_input.proofs.lines.ledger_length.Goals as goal

pub returns-in_default : goal.returns-in_default
returns-in_default c = (refused-length _ _ _ (sym c.judge.ensures ∙ ap checked_of c.in_default.is), search rules)

pub returns : goal.returns
unfolding line_size
returns c =
    let j = sym c.judge.ensures ∙ ap checked_of c.in-Ok.is in
    (accepted_length _ _ j, accepted_most _ _ j)
