use mathlib.Core.Path.{refl}
use Prim.Native.Nat.{◌+◌}
use native.Mathlib.Omega.{arith}
use Rattle.survey_exclusions.proofs.ExclusionLaws.{walk_none, walk_more, walk_over, place_inside, fits_here, walk-next, walk_all}
use Rattle.survey_exclusions.proofs.exclusions.put_exclusions.Goals as goal

pub loop-at-init : goal.loop-at-init
loop-at-init c = (0, omega arith, omega arith, walk_none _ _)

pub exclusion_at-requires : goal.exclusion_at-requires
exclusion_at-requires c =
    let w = c.loop-at.invariant.3 in
    let e = c.in-Some.ensures in
    let h = walk_more c.args.image.now w (omega (arith, e.0, e.1)) in
    (omega arith, place_inside c.args.image.now w h e.0, omega arith)

pub put_exclusion-requires : goal.put_exclusion-requires
put_exclusion-requires c =
    let w = c.loop-at.invariant.3 in
    let e = c.in-Some.ensures in
    let h = walk_more c.args.image.now w (omega (arith, e.0, e.1)) in (
      omega (arith, h, c.loop-at.invariant.2, w.lines.size, c.requires.0, c.requires.1),
      fits_here c.args.image.now w h e.0 refl c.exclusion_at.ensures c.requires.2,
    )

pub loop-at-smaller : goal.loop-at-smaller
loop-at-smaller c =
    let w = c.loop-at.invariant.3 in
    let e = c.in-Some.ensures in
    let h = walk_more c.args.image.now w (omega (arith, e.0, e.1)) in
    omega (arith, e.1, place_inside c.args.image.now w h e.0)

pub loop-at-preserved : goal.loop-at-preserved
loop-at-preserved c =
    let w = c.loop-at.invariant.3 in
    let e = c.in-Some.ensures in
    let h = walk_more c.args.image.now w (omega (arith, e.0, e.1)) in (
      c.loop-at.invariant.0 + 1,
      omega (arith, h),
      omega (arith, c.put_exclusion.ensures.1, c.loop-at.invariant.2),
      walk-next c.args.image.now w h e.0 refl c.exclusion_at.ensures c.put_exclusion.ensures.0,
    )

pub returns : goal.returns
returns c =
    let w = c.loop-at.invariant.3 in (
      walk_all c.args.image.now w (walk_over c.args.image.now w c.in_default.ensures.0),
      omega (arith, c.loop-at.invariant.1, c.loop-at.invariant.2, c.requires.1),
    )
