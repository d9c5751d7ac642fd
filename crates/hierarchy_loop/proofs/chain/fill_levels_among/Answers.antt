use mathlib.Core.Path.{◌≡◌, refl, sym, ap, ◌∙◌}
use mathlib.Core.Bool.{true}
use Prim.Native.Nat.{ℕ, ◌+◌}
use native.Mathlib.Omega.{arith}
use borrow.Author.Rules.{rules}
use Rattle.model.specs.Sets.{has}
use Rattle.model.specs.Loop.{level, loop_length}
use Rattle.hierarchy_judged.proofs.Lowest.{lowest_passes, lowest_goes, lowest_ends, below_found, below_none}
use Rattle.hierarchy_loop.proofs.Looping.{level_none, level-next, levels_next, levels_found}
use Rattle.hierarchy_loop.proofs.chain.fill_levels_among.Goals as goal

pub loop-k-init : goal.loop-k-init
loop-k-init c = record { size = c.told-levels; here = c.with-here.ensures ∙ level_none _ _; stored = λ k l. absurd (omega arith); above = refl }

pub returns-then-has : goal.returns-then-has
unfolding loop_length
returns-then-has c =
    let i = c.loop-k.invariant in
    let e = level-next c.args.juniors.now c.args.r.0 c.loop-k.k _ _ i.here c.seniors_among-here.ensures in
    let on : has (level c.args.juniors.now c.args.r.0 (c.loop-k.k + 1)) c.args.r.0 ≡ true =
    ap (λ (x : ℕ). has x c.args.r.0) (sym e) ∙ sym c.has.ensures ∙ c.if-has.true in
    let found = lowest_passes _ 65 (c.loop-k.k + 1) (omega (arith, c.loop-k-test.true)) on in (
      below_found _ _ _ (omega (arith, c.loop-k-test.true)) (found ∙ i.above),
      levels_found c.args.juniors.now c.args.r.0 c.loop-k.levels c.loop-k.k _ (omega (arith, i.size, c.loop-k-test.true)) i.here i.stored,
    )

pub loop-k-preserved : goal.loop-k-preserved
loop-k-preserved c =
    let i = c.loop-k.invariant in
    let e = level-next c.args.juniors.now c.args.r.0 c.loop-k.k _ _ i.here c.seniors_among-here.ensures in
    record {
      size = search rules;
      here = e;
      stored = levels_next c.args.juniors.now c.args.r.0 c.loop-k.levels c.loop-k.k _ (omega (arith, i.size, c.loop-k-test.true)) i.here i.stored;
      above =
          lowest_goes _ 65 (c.loop-k.k + 1) (omega (arith, c.loop-k-test.true))
          (ap (λ (x : ℕ). has x c.args.r.0) (sym e) ∙ sym c.has.ensures ∙ c.if-has.false) ∙ i.above;
    }

pub returns : goal.returns
unfolding loop_length
returns c =
    let i = c.loop-k.invariant in
    let z : c.loop-k.k ≡ 64 = omega (arith, c.loop-k-test.false, c.loop-k.auto.k-end) in
    let ends = lowest_ends (λ n. has (level c.args.juniors.now c.args.r.0 n) c.args.r.0) 65 (c.loop-k.k + 1) (omega (arith, z)) in (
      below_none 65 _ (omega (arith, z, i.above, ends)),
      λ n e. cc,
    )
