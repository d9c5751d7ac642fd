use mathlib.Core.Path.{sym, ap, ◌∙◌}
use Prim.Native.Nat.{ℕ}
use native.Mathlib.Nat.{le_antisymm}
use native.Mathlib.Omega.{arith}
use Rattle.model.specs.Line.{line_size}
use Rattle.model.specs.Run.{line_of}
use Rattle.limits_held.specs.Held.{held_but, held_by_all}
use Rattle.limits_held.proofs.Holding.{sum-next, sum_none, held-step}
use Rattle.limits_held.proofs.held.Goals as goal

pub loop-v-init : goal.loop-v-init
unfolding held_by_all
loop-v-init c = (omega arith, λ r. (c.none-all.ensures r ∙ sym (sum_none _), omega (arith, c.none-all.ensures r)))

pub line_of-l-requires : goal.line_of-l-requires
unfolding line_size
line_of-l-requires c = omega (arith, c.requires.1)

pub add_sessions-all-requires : goal.add_sessions-all-requires
add_sessions-all-requires c r =
    omega (arith, (c.loop-v.invariant.1 r).1, c.requires.0)

pub loop-v-preserved : goal.loop-v-preserved
unfolding held_by_all line_of
loop-v-preserved c = (
  omega arith,
  λ r.
      let i = c.loop-v.invariant.1 r in
      let q = c.add_sessions-all.ensures r in
      let w = c.without-counted.ensures r ∙ held-step c.args.ledger.now c.args.user c.args.k r c.loop-v.v _ c.line_of-l.ensures in
      let n = sum-next (held_but c.args.ledger.now c.args.user c.args.k r) c.loop-v.v in
      (omega (arith, q.0, w, n, i.0), omega (arith, q.1, i.1)),
)

pub returns : goal.returns
returns c r =
    (c.loop-v.invariant.1 r).0 ∙ ap (λ (n : ℕ). held_by_all c.args.ledger.now c.args.user c.args.k n r) (le_antisymm c.loop-v.invariant.0 c.loop-v-test.false)
