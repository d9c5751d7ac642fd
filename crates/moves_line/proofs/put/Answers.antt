-- `moves_line::put` meets its contract.
-- Assumes nothing.
use mathlib.Core.Path.{ap, ◌∙◌}
use native.Mathlib.Omega.{arith}
use lib.Seq.{take_all}
use Rattle.octets.specs.Splice.{splice}
use Rattle.moves_line.proofs.put.Goals as goal

pub returns-then-bytes-eq80 : goal.returns-then-bytes-eq80
returns-then-bytes-eq80 c =
    c.copy.ensures ∙ ap (splice _ _) (take_all 80 _ (omega arith))
