-- `search::solve` meets its contract: what a search finds is the model's choice.
-- Assumes nothing.
use mathlib.Core.Path.{sym, ◌∙◌}
use borrow.Author.Tests.{not-true, not-false}
use Rattle.sets.specs.Words.{value}
use Rattle.search_steps.specs.Search.{task_by}
use Rattle.query_reduced.proofs.MetLaws.{met_less}
use Rattle.search.proofs.Solved.{is_chosen, none_chosen}
use Rattle.std.proofs.lemmas.Bool.{not_from_true}
use Rattle.std.proofs.lemmas.Bool.{not_from_false}
use Rattle.search.proofs.solve.Goals as goal

pub returns-then-not-reduced_met : goal.returns-then-not-reduced_met
returns-then-not-reduced_met c m l k a b h p given =
    none_chosen (task_by a b c.args.query.now) (value c.args.upper) c.args.authorized c.ranges.authorized.fits m l k given
    (met_less c.args.query.now.exclusions.now) _ c.reduced_met.ensures (not-true _ (not_from_false _ c.if-not-reduced_met.true))

pub best_of-requires : goal.best_of-requires
best_of-requires c = sym c.reduced_met.ensures ∙ not-false _ (not_from_true _ c.if-not-reduced_met.false)

pub returns : goal.returns
returns c m l k a b h p given =
    is_chosen (task_by a b c.args.query.now) (value c.args.upper) c.args.authorized c.ranges.authorized.fits m l
    k given c.usable-free.result c.usable-free.ensures
    c.best_of.result c.answer.result c.answer.ensures (c.best_of.ensures a b h p)
