-- `grant_table_turned::bytes::turn` meets its contract. The loop's invariant: the rows of the first w columns are in
-- place.
-- Assumes nothing.
use Rattle.std.proofs.Common.{◌≡◌}
use Rattle.grant_table_turned.proofs.Words.{turned_to}
use Rattle.grant_table_turned.proofs.bytes.turn.Given as goal

abbrev pub invariant-loop-w : goal.invariant-loop-w
invariant-loop-w l = l.target ≡ turned_to l.source l.initial.target l.w
