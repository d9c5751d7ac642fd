-- `obstacles_blocks::first::some_step` meets its contract.
-- Assumes nothing.
use Rattle.std.proofs.Common.{rules, arith, refl}
use Rattle.sets.specs.Words.{value}
use Rattle.query.specs.Carry.{rows_of}
use Rattle.search_steps.specs.Search.{task_of}
use Rattle.query_reduced.proofs.MetLaws.{met_less}
use Rattle.query.proofs.Turned.{turned_sub}
use Rattle.search_steps.proofs.Turns.{ready_more}
use Rattle.search_steps.proofs.Loops.{less_free, fewer_free}
use Rattle.obstacles_blocks.proofs.Firsts.{none_said, found_chosen, passing_start, passing_end, passing_found, passing_off, passing_on}
use Rattle.obstacles_blocks.proofs.first.+some_step.Goals as goal

pub returns-in_default : goal.returns-in_default
returns-in_default t c =
    found_chosen (task_of c.args.query.now) _ _ c.requires.0 _ (none_said _ _ c.missing.result c.missing.ensures.found c.in_default.not-Some)

pub loop-k-init : goal.loop-k-init
loop-k-init t c =
    rw (c.into_iter-k-iterator.ensures.into_iter_gives, c.members-k-items.ensures)
    (passing_start (task_of c.args.query.now) _ _ c.requires.0 c.args.turned.now _ _ _ c.in-Some.ensures.found c.requires.1 c.inter-tries.ensures)

pub loop-k-preserved-then-not-reduced_met : goal.loop-k-preserved-then-not-reduced_met
loop-k-preserved-then-not-reduced_met t c =
    let s = c.in-Some-k.ensures.steps in
    passing_off (task_of c.args.query.now) _ _ _ _ c.loop-k.invariant _ _ _ _ s.lowest.member s.rest c.without-less.ensures c.with-more.ensures
    (met_less c.args.query.now.exclusions.now) _ c.reduced_met.ensures c.if-not-reduced_met.true

pub some_step-requires : goal.some_step-requires
some_step-requires t c =
    let s = c.in-Some-k.ensures.steps in
    let inv = c.loop-k.invariant in
    let on = inv.inside c.in-Some-k.k s.lowest.member in (
      omega (
        arith,
        c.decreases,
        fewer_free c.args.node.free c.loop-k.still c.in-Some-k.k _ (omega arith) inv.fewer s.lowest.small on c.without-less.ensures,
      ),
      (
        ready_more (task_of c.args.query.now) _ _ _ c.requires.0 _ _ _ _ s.lowest.small c.with-more.ensures c.perm_union.ensures refl
            c.reduced_met.ensures c.if-not-reduced_met.false,
        turned_sub (rows_of c.args.query.now.rows.now) c.args.turned.now (value c.args.query.now.job.lower) c.args.node.free _ c.requires.1
            (less_free c.args.node.free c.loop-k.still c.in-Some-k.k _ inv.fewer on c.without-less.ensures),
      ),
    )

pub returns-then-some_step : goal.returns-then-some_step
returns-then-some_step t c =
    let s = c.in-Some-k.ensures.steps in
    passing_found (task_of c.args.query.now) _ _ _ _ c.loop-k.invariant _ _ _ _ s.lowest.member s.rest c.without-less.ensures c.with-more.ensures
    _ c.some_step.ensures c.if-some_step.true

pub loop-k-preserved : goal.loop-k-preserved
loop-k-preserved t c =
    let s = c.in-Some-k.ensures.steps in
    passing_on (task_of c.args.query.now) _ _ _ _ c.loop-k.invariant _ _ _ _ s.lowest.member s.rest c.without-less.ensures c.with-more.ensures
    _ c.some_step.ensures (search rules)

pub returns : goal.returns
returns t c = passing_end _ _ _ _ _ c.loop-k.invariant c.in-None.ensures.steps.0
