-- `obstacles_blocks::blocked` meets its contract: whether a set is left with all exclusions is asked before they are
-- sorted.
-- Assumes nothing.
use mathlib.Core.Path.{◌≡◌, ap, sym, ◌∙◌}
use mathlib.Core.Bool.{true, false}
use native.Mathlib.Omega.{arith}
use lib.ListN.{length}
use Rattle.std.proofs.Common.{◌≤◌}
use Rattle.model.specs.Policy.{sorted}
use Rattle.model.specs.Obstacle.{blocks}
use Rattle.exclusion_rows.specs.Table.{exclusions_of}
use Rattle.obstacles_blocks.specs.Blocking.{blocked_of}
use Rattle.obstacles_blocks.proofs.Lefts.{ordered, asked_ordered, none_ordered, all_ordered, blocks_ordered, leaves_sorted, blocked_none, found_all, found_only}
use Rattle.obstacles_blocks.proofs.Tells.{reduced_one}
use Rattle.obstacles_blocks.proofs.blocked.Goals as goal

pub returns-then-left_with : goal.returns-then-left_with
unfolding blocked_of blocks
returns-then-left_with c p u x g e =
    let n : length c.args.at.line.sessions ≡ 8 = omega arith in
    let few : c.args.xs.now.count ≤ length c.args.xs.now.rows = omega (arith, c.args.xs.now.few) in
    ap (blocks _ _)
    (blocked_none p u x _ _ _ _ (sorted p.exclusions)
    (leaves_sorted p u x _ _ _ _ true
    (found_all p u x c.args.at.line c.args.at.session _ _ _ c.args.xs.now.rows _ _ c.args.xs.now.count _ g
    (rw (sym c.list-list.ensures) at c.reduce-reduced.ensures.1)
    (omega arith) few c.ranges.authorized.fits c.usable-free.ensures _ _ c.left_with.ensures c.if-left_with.true)))

pub returns-then-xs-eq1 : goal.returns-then-xs-eq1
unfolding blocked_of
returns-then-xs-eq1 c p u x g e =
    let n : length c.args.at.line.sessions ≡ 8 = omega arith in
    let r = c.reduce-reduced.ensures in
    let few : c.args.xs.now.count ≤ length c.args.xs.now.rows = omega (arith, c.args.xs.now.few) in
    let all = found_all p u x c.args.at.line c.args.at.session _ _ _ c.args.xs.now.rows _ _ c.args.xs.now.count _ g (rw (sym c.list-list.ensures) at r.1)
    (omega arith) few c.ranges.authorized.fits c.usable-free.ensures _ _ c.left_with.ensures c.if-left_with.false in
    c.told_of.ensures _ _
    (reduced_one (exclusions_of c.args.xs.now) _ _ c.reduce-reduced.result.rows (rw r.0 at r.1) 0 _ _ (omega arith) few (omega arith))
    ∙ ap (blocks _ _)
    (found_only p u x c.args.at.line c.args.at.session _ _ _ c.args.xs.now.rows _ _ c.args.xs.now.count _ g r.1 (omega arith) few c.ranges.authorized.fits
    c.usable-free.ensures _ (omega arith) e all)

pub returns : goal.returns
unfolding blocked_of
returns c p u x g e =
    let n : length c.args.at.line.sessions ≡ 8 = omega arith in
    let few : c.args.xs.now.count ≤ length c.args.xs.now.rows = omega (arith, c.args.xs.now.few) in
    blocks_ordered p u x _ _ _ _ _
    (c.first_blocking.ensures (ordered p) u x _ _ c.ranges.authorized.fits (asked_ordered p u x c.args.at.line c.args.at.session 0 0 _ c.args.xs.now.rows _
    c.args.xs.now.count _ _
    c.sort-ordered.ensures.0 g)
    c.usable-free.ensures (none_ordered p u x _ _ _ _ e)
    (all_ordered p u x _ _ _ _ false
    (leaves_sorted p u x _ _ _ _ false
    (found_all p u x c.args.at.line c.args.at.session _ _ _ c.args.xs.now.rows _ _ c.args.xs.now.count _ g
    (rw (sym c.list-list.ensures) at c.reduce-reduced.ensures.1)
    (omega arith) few c.ranges.authorized.fits c.usable-free.ensures _ _ c.left_with.ensures c.if-left_with.false))))
