-- `grant_table::table::put_rows` meets its contract. The loop's invariant: the first r rows are in place.
-- Assumes nothing.
use Rattle.std.proofs.Common.{◌≡◌}
use Rattle.sets.specs.Words.{values}
use Rattle.grant_table.proofs.TableCallProof.{rows_to}
use Rattle.grant_table.proofs.table.put_rows.Given as goal

abbrev pub invariant-loop-r : goal.invariant-loop-r
invariant-loop-r l = l.table ≡ rows_to (values l.grants.granted.now) l.grants.below.now l.initial.table l.r
