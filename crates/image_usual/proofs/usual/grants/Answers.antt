-- `image_usual::usual::grants` meets its contract.
-- Assumes nothing.
use Rattle.std.proofs.Common.{◌≡◌, ◌+◌, ◌/◌, ◌%◌, ◌^◌, ◌<◌, arith, lt-ltb}
use Rattle.model.specs.Image.{in_range}
use Rattle.image_usual.proofs.Words.{grant_said}
use Rattle.image_usual.proofs.usual.grants.Goals as goal

pub returns : goal.returns
unfolding in_range
returns c =
    let r = c.requires in
    let m : (c.turned-x.result / 256 + 4294967104) % 4294967296 < 64 = omega (arith, c.if-h-r.false, c.requires) in
    let e : ((c.turned-x.result / 256 + 4294967104) % 4294967296 + 192) % 2 ^ 32 ≡ c.turned-x.result / 2 ^ 8 = omega arith in
    record {
      said = rw c.turned-x.ensures (grant_said c.args.w _ (omega arith) (rw c.turned-x.ensures at m) (rw c.turned-x.ensures at e));
      within = simp (lt-ltb _ _ c.if-h-r.false, lt-ltb _ _ c.if-h-p.false);
      role_small = m;
      permission_small = omega arith;
    }
