-- `search::best_of` meets its contract: each search starts from the empty set.
-- Assumes nothing.
use mathlib.Core.Path.{refl}
use Rattle.std.proofs.Common.{rules, tests}
use Rattle.sets.specs.Words.{joined, value}
use Rattle.search_steps.proofs.Turns.{ready_none}
use Rattle.search.proofs.Solved.{not_most}
use Rattle.search.proofs.best_of.Goals as goal

pub first_step-requires : goal.first_step-requires
unfolding value joined
first_step-requires c =
    record {
      ready = ready_none _ 0 refl c.requires;
      modest = record { permissions = not_most _ (λ e. search (rules, tests)); roles = not_most _ (λ e. search (rules, tests)) };
      carriers = c.join_carriers.ensures.0;
    }

pub subset_step-requires : goal.subset_step-requires
unfolding value joined
subset_step-requires c = (ready_none _ 0 refl c.requires, c.reach-from.ensures)
