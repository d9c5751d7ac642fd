-- `grant_table_turned::bytes::unturn` meets its contract. The loop's invariant: the first r rows are in place.
-- Assumes nothing.
use Rattle.std.proofs.Common.{◌≡◌}
use Rattle.grant_table_turned.proofs.Parts.{back_to}
use Rattle.grant_table_turned.proofs.bytes.unturn.Given as goal

abbrev pub invariant-loop-r : goal.invariant-loop-r
invariant-loop-r l = l.target ≡ back_to l.source l.initial.target l.r
