-- `image_usual::usual::opens` meets its contract.
-- Assumes nothing.
use Rattle.std.proofs.Common.{refl, arith}
use Rattle.image_usual.proofs.Joining.{opens}
use Rattle.image_usual.proofs.usual.opens.Goals as goal

pub returns : goal.returns
returns c = opens _ _ _ _ (omega arith) (omega arith) c.if-t-ne0.false (omega arith) (omega arith) (omega arith) (omega arith) refl
