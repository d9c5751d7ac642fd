use mathlib.Core.Path.{ap, ◌∙◌}
use native.Mathlib.Nat.{le_antisymm}
use native.Mathlib.Omega.{arith}
use lib.Bits.{bit_or}
use Rattle.model.specs.Tests.{pick}
use Rattle.model.specs.Sets.{set_of}
use Rattle.model_laws.proofs.SetLaws.{shl_one}
use Rattle.sets.proofs.Chosen.{set_of_none, set_of-next}
use Rattle.sets.proofs.set_of.Goals.{then-test, else-test}
use Rattle.sets.proofs.set_of.Goals as goal

pub loop-k-init : goal.loop-k-init
loop-k-init g c p h = set_of_none p

pub loop-k-preserved : goal.loop-k-preserved
unfolding pick
loop-k-preserved g c p h =
    set_of-next p c.loop-k.k _ _ c.test.result (c.loop-k.invariant p h) (h c.loop-k.k c.test.result c.loop-k-test.true c.test.ensures)
    elim c.if-test.branch [
      | then-test w ↦ rw w.if-test.true (w.found-is ∙ ap (bit_or c.loop-k.found) (shl_one 64 c.loop-k.k (omega (arith, c.loop-k-test.true, c.requires.few))))
      | else-test w ↦ rw w.if-test.false w.found-is
    ]

pub returns : goal.returns
returns g c p h = c.loop-k.invariant p h ∙ ap (set_of p) (le_antisymm c.loop-k.auto.k-end c.loop-k-test.false)
