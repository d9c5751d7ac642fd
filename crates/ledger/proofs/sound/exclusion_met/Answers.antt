-- `ledger::sound::exclusion_met` meets its contract.
-- Assumes nothing.
use mathlib.Core.Path.{◌≡◌, ◌∙◌}
use mathlib.Core.Logic.{inl, inr}
use native.Mathlib.Omega.{arith}
use lib.ListN.{length}
use Rattle.model.specs.Line.{counted}
use Rattle.ledger.proofs.Soundness.{met_once}
use Rattle.ledger.proofs.sound.exclusion_met.Goals as goal

pub returns-in-MsDmer : goal.returns-in-MsDmer
unfolding counted
returns-in-MsDmer c =
    let n : length c.args.l.sessions ≡ 8 = omega arith in
    c.met_at.ensures ∙ met_once c.args.l c.args.x _ _ n (λ t. elim c.in-MsDmer.is [ inl e ↦ rw e | inr e ↦ rw e ])
