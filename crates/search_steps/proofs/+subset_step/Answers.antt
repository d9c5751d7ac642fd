-- `search_steps::subset_step` meets its contract.
-- Assumes nothing.
use Rattle.std.proofs.Common.{arith, refl, sym, ◌∙◌}
use Rattle.search_steps.specs.Search.{task_of}
use Rattle.query_reduced.proofs.MetLaws.{met_less}
use Rattle.query_rank.proofs.Numbers.{stands}
use Rattle.search_steps.proofs.Turns.{judges, ready_more, cuts_off, found_for}
use Rattle.search_steps.proofs.Loops.{walking_start, walking_off, walking_on, rest_less, reaches_sub, less_free, fewer_free}
use Rattle.search_steps.proofs.+subset_step.Goals as goal

pub loop-k-init : goal.loop-k-init
loop-k-init t c = (
  rw (c.into_iter-k-iterator.ensures.into_iter_gives, c.members-k-items.ensures) refl,
  rw (c.into_iter-k-iterator.ensures.into_iter_gives, c.members-k-items.ensures) (walking_start _ _ _ _),
)

pub returns-then-settled : goal.returns-then-settled
returns-then-settled t c =
    let walk = c.loop-k.invariant.1 in
    let s = c.in-Some.ensures.steps in
    found_for c.args.query.now _ _ _ _ (walk.rest _ (cuts_off c.args.query.now c.args.reach.now _ _ _ _ _ _ _ c.requires.0
    (reaches_sub _ _ c.args.node.free _ walk.inside c.requires.1) s.lowest c.perm_union-top.ensures
    (λ e. (rw c.loop-k.invariant.0 at c.settled.ensures) e _ c.fewest-permissions.ensures c.fewest-roles.ensures) c.if-settled.true))

pub loop-k-preserved-then-not-reduced_met : goal.loop-k-preserved-then-not-reduced_met
loop-k-preserved-then-not-reduced_met t c =
    let s = c.in-Some.ensures.steps in (
      rest_less c.args.node c.loop-k.rest _ _ _ _ c.loop-k.invariant.0 c.without.ensures s.rest,
      walking_off (task_of c.args.query.now) (met_less c.args.query.now.exclusions.now) _ _ _ _ _ c.loop-k.invariant.1 _ _ _ _
          s.lowest.member s.rest c.with-wider.ensures c.reduced_met.ensures c.if-not-reduced_met.true,
    )

pub subset_step-found-requires : goal.subset_step-found-requires
subset_step-found-requires t c =
    let s = c.in-Some.ensures.steps in
    let inside = c.loop-k.invariant.1.inside in
    let less = rw c.loop-k.invariant.0 at c.without.ensures in (
      omega (arith, c.decreases, fewer_free c.args.node.free _ _ _ (omega arith) inside s.lowest.small s.lowest.member less),
      (
        ready_more (task_of c.args.query.now) _ _ _ c.requires.0 _ _ _ _ s.lowest.small c.with-wider.ensures
            c.perm_union.ensures refl
            c.reduced_met.ensures c.if-not-reduced_met.false,
        reaches_sub _ _ c.args.node.free _ (less_free c.args.node.free _ _ _ inside s.lowest.member less) c.requires.1,
      ),
    )

pub loop-k-preserved : goal.loop-k-preserved
loop-k-preserved t c =
    let s = c.in-Some.ensures.steps in
    let less = (rw c.loop-k.invariant.0 at c.without.ensures) ∙ sym s.rest in (
      rest_less c.args.node c.loop-k.rest _ _ _ _ c.loop-k.invariant.0 c.without.ensures s.rest,
      walking_on (task_of c.args.query.now) (met_less c.args.query.now.exclusions.now) _ _ _ _ _ c.loop-k.invariant.1 _ _ _ _
          s.lowest.member s.rest c.with-wider.ensures c.reduced_met.ensures _
          (rw less at (c.subset_step-found.ensures _ _ (stands _) (stands _))),
    )

pub returns : goal.returns
returns t c =
    found_for c.args.query.now _ _ _ _
    (c.loop-k.invariant.1.rest _ (judges c.args.query.now _ _ _ _ _ c.requires.0 c.in-None.ensures.steps.0 c.judged.ensures))
