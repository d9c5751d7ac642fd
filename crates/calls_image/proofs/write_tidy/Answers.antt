-- `calls_image::write_tidy` meets its contract.
-- Assumes nothing.
use mathlib.Core.Path.{ap, ◌∙◌}
use borrow.Author.Rules.{rules}
use Rattle.reasons.specs.Numbers.{refusal_of}
use Rattle.tables.proofs.Fills.{blank_fresh}
use Rattle.calls_image.proofs.Tidying.{tidy-refused, tidy_accepted, tables_fit}
use Rattle.calls_image.proofs.write_tidy.Goals as goal

pub read_direct-outcome-requires : goal.read_direct-outcome-requires
read_direct-outcome-requires c = search (rules, blank_fresh)

pub returns-in_default : goal.returns-in_default
returns-in_default c = tidy-refused _ _ c.in_default.ensures.refused (c.refused.ensures ∙ ap refusal_of c.in_default.is)

pub tidy-requires : goal.tidy-requires
tidy-requires c =
    let r = c.in-Ok.ensures.accepted in
    tables_fit _ _ r.0 r.1

pub returns : goal.returns
returns c =
    let r = c.in-Ok.ensures.accepted in
    tidy_accepted _ _ r.0 r.1 _ _ _ (rw c.returned.ensures c.tidy.ensures)
