-- `image_reader::behind_head` meets its contract.
-- Assumes nothing.
use native.Mathlib.Omega.{arith}
use Rattle.model.specs.Image.{behind_head}
use Rattle.image_reader.proofs.behind_head.Goals as goal

pub returns : goal.returns
unfolding behind_head
returns c = omega arith
