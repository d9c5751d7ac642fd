-- `image_usual::usual::member` meets its contract.
-- Assumes nothing.
use Rattle.std.proofs.Common.{◌≡◌, ◌+◌, ◌%◌, ◌^◌, ◌<◌, ◌∙◌, arith}
use Rattle.image_usual.proofs.Joining.{joins}
use Rattle.image_usual.proofs.usual.member.Goals as goal

pub returns : goal.returns
returns c =
    let m : (c.turned-x.result + 4294966912) % 4294967296 < 64 = omega (arith, c.if-roles-r.false, c.requires) in
    let e : ((c.turned-x.result + 4294966912) % 4294967296 + 384) % 2 ^ 32 ≡ c.turned-x.result = omega arith in
    joins _ _ _ _ _ (omega arith) m (e ∙ c.turned-x.ensures) c.if-t-eq0.false c.if-roles-r.false (cc) (rw c.with.ensures)
