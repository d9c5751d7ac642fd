-- The first ledger is as many zeros as it is long.
-- Assumes nothing.
use mathlib.Core.Path.{refl}
use Prim.Native.Nat.{◌+◌, ◌*◌}
use Rattle.model.specs.Line.{SESSIONS}
use Rattle.script_input.proofs.Steps.{first_zeros}
use Rattle.nutrameza_survey.proofs.main.Goals as goal

pub count_all-requires : goal.count_all-requires
count_all-requires c =
    (first_zeros _ c.ledger_length-used.result (64 * (16 + 16 * SESSIONS)) c.ledger_length-used.ensures.0 c.ledger_length-used.ensures.1, refl)
