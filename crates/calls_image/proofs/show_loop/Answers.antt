-- `calls_image::show_loop` meets its contract.
-- Assumes nothing.
use mathlib.Core.Path.{ap, sym, subst, ◌∙◌}
use Rattle.std.proofs.Common.{ℕ, ◌≤◌}
use borrow.Author.Rules.{rules}
use Rattle.model.specs.Image.{empty_rows}
use Rattle.reasons.specs.Numbers.{refusal_of, checked_of}
use Rattle.calls_image.proofs.Loops.{loop-refused, loop-by, loop-range, loop-roles, ranged}
use Rattle.calls_image.proofs.show_loop.Goals as goal

pub check-outcome-requires : goal.check-outcome-requires
unfolding empty_rows
check-outcome-requires c = search rules

pub returns-in_default : goal.returns-in_default
returns-in_default c = loop-refused _ _ (sym c.in_default.ensures.0) (c.refused.ensures ∙ ap refusal_of c.in_default.is)

pub show_loop-requires : goal.show_loop-requires
show_loop-requires c =
    let g = sym c.in-Ok.ensures.0 in
    let j = c.check-outcome.ensures.1 _ (ap checked_of c.in-Ok.is) in
    (subst (λ (x : ℕ). x ≤ 64) (loop-roles _ g) (loop-range _ g).roles.1, ranged _ g j.1)

pub returns : goal.returns
returns c =
    let g = sym c.in-Ok.ensures.0 in
    let j = c.check-outcome.ensures.1 _ (ap checked_of c.in-Ok.is) in
    loop-by _ g (rw c.returned.ensures (c.show_loop.ensures _ (loop-range _ g) j.1 (loop-roles _ g)))
