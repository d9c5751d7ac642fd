-- The zeros behind the highest byte are counted from the end.
-- Assumes nothing.
use borrow.Author.Rules.{rules}
use mathlib.Core.Path.{sym, ◌∙◌}
use Rattle.std.proofs.Common.{tests}
use Rattle.std.proofs.lemmas.Iterator.Adapters.{YieldsList-from_rev_slice}
use Rattle.std.proofs.lemmas.Iterator.Search.{position_from_yields_List}
use Rattle.script_text_lines.proofs.LineLaws.{some_bit, highest_none, highest_some}
use Rattle.script_text_lines.proofs.highest.Goals as goal

pub returns-in_err-zeros : goal.returns-in_err-zeros
returns-in_err-zeros c =
    let e = position_from_yields_List some_bit _ _ c.position.result c.position.ensures.ran (YieldsList-from_rev_slice c.args.bytes.now cc)
    (λ x b q k. search (rules, tests)) in
    rw c.from_residual.ensures (highest_none _ (sym e ∙ c.in_err-zeros.was))

pub returns : goal.returns
returns c =
    let e = position_from_yields_List some_bit _ _ c.position.result c.position.ensures.ran (YieldsList-from_rev_slice c.args.bytes.now cc)
    (λ x b q k. search (rules, tests)) in
    highest_some _ _ (sym e ∙ c.in_ok-zeros.was)
