-- `clauses_bytes::bytes::put_each` meets its contract: the lowest byte, then those above it. The measure is how many
-- more there may be.
-- Assumes nothing.
use Rattle.clauses_bytes.proofs.bytes.+put_each.Given as goal

abbrev pub decreases-put_each : goal.decreases-put_each
decreases-put_each l = l.k
