-- `hierarchy::reach::granter` meets its contract.
-- Assumes nothing.
use mathlib.Core.Path.{ap, ◌∙◌}
use Prim.Native.Nat.{ℕ}
use Rattle.model.specs.Sets.{inter}
use Rattle.hierarchy.proofs.Naming.{granter_by_lem, granter-nobody}
use Rattle.hierarchy.proofs.reach.granter.Goals as goal

pub returns-in_err-lowest : goal.returns-in_err-lowest
returns-in_err-lowest c =
    rw c.from_residual.ensures
    (granter-nobody _ _ _ _ (c.members.ensures ∙ c.inter-both.ensures ∙ ap (λ (x : ℕ). inter x c.args.holding) c.reach.ensures) c.in_err-lowest.ensures.steps.0)

pub returns : goal.returns
returns c =
    granter_by_lem _ _ _ _ (c.members.ensures ∙ c.inter-both.ensures ∙ ap (λ (x : ℕ). inter x c.args.holding) c.reach.ensures) _
    c.in_ok-lowest.ensures.steps.lowest
