-- `tables_rows::explain::explain` meets its contract.
-- Assumes nothing.
use mathlib.Core.Path.{ap, ◌∙◌}
use mathlib.Core.Option.{Option}
use Prim.Native.Nat.{ℕ}
use Rattle.model.specs.Sets.{has}
use Rattle.model.specs.Policy.{with_selves, granter_by}
use Rattle.model.specs.Session.{explanation}
use Rattle.sets.specs.Words.{values}
use Rattle.tables_rows.proofs.Holders.{granter_same}
use Rattle.tables_rows.proofs.explain.explain.Goals as goal

pub returns : goal.returns
returns c = (
  c.first_carrier.ensures.0
      ∙ ap (λ (x : ℕ). explanation (granter_by (with_selves c.args.grants.now.below.now) (has x)) c.args.set) c.holders.ensures
      ∙ ap (λ (name : ℕ → Option ℕ). explanation name c.args.set)
      (λ i r. granter_same (with_selves c.args.grants.now.below.now) (values c.args.grants.now.granted.now) c.args.p.0 r i),
  c.first_carrier.ensures.1,
)
