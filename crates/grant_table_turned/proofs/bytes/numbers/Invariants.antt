-- `grant_table_turned::bytes::numbers` meets its contract. The loop's invariant: the numbers below i are in place.
-- Assumes nothing.
use Rattle.std.proofs.Common.{◌≡◌, ℕ, ◌+◌, ◌*◌, ◌<◌, get_or, length}
use Rattle.octets.specs.Splice.{number_at}
use Rattle.grant_table_turned.proofs.bytes.numbers.Given as goal

abbrev pub invariant-loop-i : goal.invariant-loop-i
invariant-loop-i l = (length l.number-items ≡ 64) × ((j : ℕ) → j < l.i → get_or l.number-items j 0 ≡ number_at l.source (l.from + l.step * j))
