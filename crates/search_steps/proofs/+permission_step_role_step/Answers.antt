-- `search_steps::permission_step` and `role_step` meet their contracts.
-- Assumes nothing.
use Rattle.std.proofs.Common.{arith, ◌∙◌, refl, sym}
use Rattle.sets.specs.Words.{value}
use Rattle.query_rank.proofs.Numbers.{stands}
use Rattle.search_steps.specs.Search.{task_of}
use Rattle.query_reduced.proofs.MetLaws.{met_less}
use Rattle.query.proofs.Turned.{turned_sub}
use Rattle.search_steps.proofs.Turns.{gives_up, reaches, goes_on, tries_sub, ready_more, wanted_less}
use Rattle.search_steps.proofs.Loops.{trying_start, trying_end, trying_off, trying_on, less_free, fewer_free}
use Rattle.search_steps.proofs.+permission_step_role_step.Goals as goal

pub permission_step-role_step-requires : goal.permission_step-role_step-requires
permission_step-role_step-requires t c =
    (omega (arith, c.decreases), (c.requires, tries_sub c.args.node.free _ c.inter-tries.result c.inter-tries.ensures))

pub permission_step-returns : goal.permission_step-returns
permission_step-returns t c lacking =
    goes_on (task_of c.args.query.now) _ _ _ c.requires.ready c.args.turned.now _ _ c.inter-tries.result _ c.in-Some.ensures.found c.requires.carriers
    c.inter-tries.ensures c.role_step.ensures

pub role_step-loop-k-init : goal.role_step-loop-k-init
role_step-loop-k-init t c =
    rw (c.into_iter-k-iterator.ensures.into_iter_gives, c.members-k-items.ensures) (trying_start _ _ _ _ _ c.requires.1)

pub role_step-loop-k-preserved-then-not-reduced_met : goal.role_step-loop-k-preserved-then-not-reduced_met
role_step-loop-k-preserved-then-not-reduced_met t c =
    let s = c.in-Some.ensures.steps in
    trying_off (task_of c.args.query.now) (met_less c.args.query.now.exclusions.now) _ _ _ _ _ _ _ c.loop-k.invariant _ _ _ _ _
    s.lowest.member s.rest c.without-less.ensures c.with-more.ensures c.reduced_met.ensures c.if-not-reduced_met.true

pub role_step-loop-k-preserved-then-no_worse : goal.role_step-loop-k-preserved-then-no_worse
role_step-loop-k-preserved-then-no_worse t c =
    let s = c.in-Some.ensures.steps in
    trying_on (task_of c.args.query.now) (met_less c.args.query.now.exclusions.now) _ _ _ _ _ _ _ c.loop-k.invariant _ _ _ _ _
    s.lowest.member s.rest c.without-less.ensures c.with-more.ensures c.reduced_met.ensures _
    (gives_up (task_of c.args.query.now) _ _ _ _ _
    (ready_more (task_of c.args.query.now) _ _ _ c.requires.0.ready _ _ _ _ s.lowest.small c.with-more.ensures c.perm_union-sum.ensures refl
    c.reduced_met.ensures c.if-not-reduced_met.false)
    (c.rank_of-better.ensures _ _ (stands _) (stands _)) c.no_worse.ensures _ c.requires.0.modest c.if-no_worse.true)

pub role_step-loop-k-preserved-then-perm_within : goal.role_step-loop-k-preserved-then-perm_within
role_step-loop-k-preserved-then-perm_within t c =
    let s = c.in-Some.ensures.steps in
    trying_on (task_of c.args.query.now) (met_less c.args.query.now.exclusions.now) _ _ _ _ _ _ _ c.loop-k.invariant _ _ _ _ _
    s.lowest.member s.rest c.without-less.ensures c.with-more.ensures c.reduced_met.ensures _
    (reaches (task_of c.args.query.now) _ _ _ _ _
    (ready_more (task_of c.args.query.now) _ _ _ c.requires.0.ready _ _ _ _ s.lowest.small c.with-more.ensures c.perm_union-sum.ensures refl
    c.reduced_met.ensures c.if-not-reduced_met.false)
    (c.rank_of-better.ensures _ _ (stands _) (stands _)) c.no_worse.ensures _ c.requires.0.modest c.if-no_worse.false _
    c.perm_within.ensures c.if-perm_within.true)

pub role_step-permission_step-found-requires : goal.role_step-permission_step-found-requires
role_step-permission_step-found-requires t c =
    let s = c.in-Some.ensures.steps in
    let inv = c.loop-k.invariant in
    let on = inv.inside c.in-Some.k s.lowest.member in (
      omega (
        arith,
        c.decreases,
        fewer_free c.args.node.free c.loop-k.still c.in-Some.k _ (omega arith) inv.fewer s.lowest.small on c.without-less.ensures,
        wanted_less (value c.args.query.now.job.lower) (value c.args.node.carried) _ (value c.perm_union-sum.result) c.perm_union-sum.ensures,
      ),
      record {
        ready = ready_more (task_of c.args.query.now) _ _ _ c.requires.0.ready _ _ _ _ s.lowest.small c.with-more.ensures c.perm_union-sum.ensures
            refl c.reduced_met.ensures c.if-not-reduced_met.false;
        modest = c.requires.0.modest;
        carriers = turned_sub (task_of c.args.query.now).row c.args.turned.now (value c.args.query.now.job.lower) c.args.node.free _
            c.requires.0.carriers (less_free c.args.node.free c.loop-k.still c.in-Some.k _ inv.fewer on c.without-less.ensures);
      },
    )

pub role_step-loop-k-preserved : goal.role_step-loop-k-preserved
role_step-loop-k-preserved t c =
    let s = c.in-Some.ensures.steps in
    trying_on (task_of c.args.query.now) (met_less c.args.query.now.exclusions.now) _ _ _ _ _ _ _ c.loop-k.invariant _ _ _ _ _
    s.lowest.member s.rest c.without-less.ensures c.with-more.ensures c.reduced_met.ensures _
    (c.permission_step-found.ensures (sym c.perm_within.ensures ∙ c.if-perm_within.false))

pub role_step-returns : goal.role_step-returns
role_step-returns t c = trying_end _ _ _ _ _ _ _ _ c.loop-k.invariant c.in-None.ensures.steps.0
