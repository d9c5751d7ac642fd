use Prim.Native.Nat.{ℕ}
use native.Mathlib.Omega.{arith}
use mathlib.Core.Path.{ap, ◌∙◌}
use native.Mathlib.Nat.{le_antisymm}
use Rattle.model.specs.Policy.{closure_by}
use Rattle.hierarchy.proofs.Closing.{closure_none, empty_closure, closure_next}
use Rattle.hierarchy.proofs.closure.close_first.Goals as goal

pub loop-k-init : goal.loop-k-init
loop-k-init c = (omega arith, closure_none _)

pub through_first-requires : goal.through_first-requires
through_first-requires c =
    (omega arith, c.requires.1, rw c.loop-k.invariant.1 (empty_closure _ _ _ c.requires.2))

pub loop-k-preserved : goal.loop-k-preserved
loop-k-preserved c = (omega arith, closure_next _ _ _ _ c.loop-k.invariant.1 c.through_first.ensures)

pub returns : goal.returns
returns c =
    c.loop-k.invariant.1 ∙ ap (λ (j : ℕ). closure_by j c.args.rows.now)
    (le_antisymm c.loop-k.invariant.0 c.loop-k-test.false)
