use mathlib.Core.Path.{◌≡◌, ap, sym, ◌∙◌}
use mathlib.Core.List.{List}
use Prim.Native.Nat.{ℕ, ◌≤◌, ◌<◌}
use native.Mathlib.Omega.{arith}
use lib.ListN.{get_or, take, length-take}
use Rattle.std.proofs.lemmas.List.{get_or-take}
use Rattle.model.specs.Sets.{has}
use Rattle.hierarchy_judged.proofs.Lowest.{lowest-all, lowest_passes, lowest_goes, lowest_ends, below_found, below_none}
use Rattle.hierarchy_judged.proofs.loops.lowest_on_loop.Goals as goal

-- the row of role r is the table's
here : (below : List ℕ) (roles r : ℕ) → r < roles → has (get_or below r 0) r ≡ has (get_or (take roles below) r 0) r
here below roles r l = ap (λ (x : ℕ). has x r) (sym (get_or-take roles below r 0 l))

pub loop-r-init : goal.loop-r-init
loop-r-init c = lowest-all _ _

pub returns-then-has : goal.returns-then-has
returns-then-has c =
    let l : c.loop-r.r < c.args.roles = omega (arith, c.loop-r-test.true, length-take c.args.roles c.args.below.now) in
    below_found _ _ _ l (lowest_passes _ _ _ l (here c.args.below.now c.args.roles c.loop-r.r l ∙ sym c.has.ensures ∙ c.if-has.true) ∙ c.loop-r.invariant)

pub loop-r-preserved : goal.loop-r-preserved
loop-r-preserved c =
    let l : c.loop-r.r < c.args.roles = omega (arith, c.loop-r-test.true, length-take c.args.roles c.args.below.now) in
    lowest_goes _ _ _ l (here c.args.below.now c.args.roles c.loop-r.r l ∙ sym c.has.ensures ∙ c.if-has.false) ∙ c.loop-r.invariant

pub returns : goal.returns
returns c =
    let long = length-take c.args.roles c.args.below.now in
    let past : c.args.roles ≤ c.loop-r.r = omega (arith, c.loop-r-test.false, c.requires, c.told-below, long) in
    let ends = lowest_ends (λ a. has (get_or c.args.below.now a 0) a) c.args.roles c.loop-r.r past in
    below_none _ _ (omega (arith, ends, c.loop-r.invariant))
