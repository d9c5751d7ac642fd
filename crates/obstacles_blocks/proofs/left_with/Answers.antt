-- `obstacles_blocks::left_with` meets its contract: the search starts from the empty set.
-- Assumes nothing.
use mathlib.Core.Path.{refl, sym, ◌∙◌}
use Rattle.sets.specs.Words.{joined, value}
use Rattle.query_reduced.proofs.MetLaws.{met_less}
use Rattle.search_steps.proofs.Turns.{ready_none}
use Rattle.obstacles_blocks.specs.Firsts.{under}
use Rattle.obstacles_blocks.proofs.Firsts.{not_met}
use Rattle.obstacles_blocks.proofs.left_with.Goals as goal

pub returns-then-not-reduced_met : goal.returns-then-not-reduced_met
returns-then-not-reduced_met c =
    not_met (under c.args.shared.now.rows.now c.args.exclusions.now c.args.shared.now.lower) _ (met_less c.args.exclusions.now) _
    c.reduced_met.ensures c.if-not-reduced_met.true

pub some_step-requires : goal.some_step-requires
unfolding value joined
some_step-requires c = (
  ready_none (under c.args.shared.now.rows.now c.args.exclusions.now c.args.shared.now.lower) 0 refl (sym c.reduced_met.ensures ∙ c.if-not-reduced_met.false),
  c.args.shared.now.carriers,
)
