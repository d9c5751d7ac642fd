-- `hierarchy::reach::reach` meets its contract.
-- Assumes nothing.
use mathlib.Core.Path.{sym, ◌∙◌}
use borrow.Author.Rules.{rules}
use Rattle.hierarchy.proofs.Naming.{selves_at}
use Rattle.hierarchy.proofs.reach.reach.Statement.{statement}
use Rattle.hierarchy.proofs.reach.reach.Tie as tie

returns : tie.Need-returns
returns c = c.with.ensures ∙ sym (selves_at _ _ (search rules))

pub reach_spec : {M : Type 1} → statement M
reach_spec = tie.close (tie.spec (λ c. search rules) (λ c. search rules) (λ c. search rules) (λ c κs. search rules) returns)
