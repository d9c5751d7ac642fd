-- `hierarchy_judged::loops::settled` meets its contract.
-- Assumes nothing.
use mathlib.Core.Path.{refl, sym, ◌∙◌}
use borrow.Author.Tests.{not-true}
use Rattle.hierarchy_judged.proofs.Judging.{judged_flat, words_stand}
use Rattle.hierarchy_judged.proofs.loops.settled.Goals as goal

pub returns-in_default : goal.returns-in_default
returns-in_default g c = λ e p a f q h k. let z = sym k ∙ c.in_default.is in cc

pub some_over-requires : goal.some_over-requires
some_over-requires g c = c.requires _ c.in-Ok.is

pub returns : goal.returns
returns g c = λ e p a f q.
    words_stand p _ _ _ _ c.in-Ok.is
    (judged_flat p _ _ _ (q _ c.in-Ok.is) (f _ c.in-Ok.is) (c.some_over.ensures (not-true _ e)) _ refl)
