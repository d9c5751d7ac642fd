-- `obstacles_blocks::first_blocking` meets its contract.
-- Assumes nothing.
use mathlib.Core.Path.{◌≡◌, ap, ◌∙◌}
use native.Mathlib.Omega.{arith}
use lib.ListN.{length}
use Rattle.std.proofs.Common.{◌≤◌}
use Rattle.model.specs.Obstacle.{blocks}
use Rattle.exclusion_rows.specs.Table.{exclusions_of}
use Rattle.obstacles_blocks.proofs.Lefts.{found_blocking}
use Rattle.obstacles_blocks.proofs.Tells.{reduced_one}
use Rattle.obstacles_blocks.proofs.first_blocking.Goals as goal

pub returns : goal.returns
returns c p u x upper own fits g keeps o e =
    let n : length c.args.at.line.sessions ≡ 8 = omega arith in
    let r = c.reduce-reduced.ensures in
    let few : c.args.xs.now.count ≤ length c.args.xs.now.rows = omega (arith, c.args.xs.now.few) in
    let same : c.reduce-reduced.result.count ≡ c.args.xs.now.count = r.0 in
    let b = rw (c.list-list.ensures, same) at c.before_blocking-j.ensures.1 in
    let w = found_blocking p u x c.args.at.line c.args.at.session _ upper own c.args.xs.now.rows _ _ c.args.xs.now.count _ g
    (rw same at r.1) (omega arith) few fits keeps
    c.before_blocking-j.result _ o e b in
    c.told_of.ensures _ _
    (reduced_one (exclusions_of c.args.xs.now) _ _ c.reduce-reduced.result.rows (rw same at r.1) c.before_blocking-j.result _ _ w.0 few (omega arith))
    ∙ ap (blocks _ _) w.1
