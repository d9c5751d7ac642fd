-- `clauses_bytes::bytes::put_long` meets its contract: the digits before the last three, then those. The measure is
-- the number.
-- Assumes nothing.
use Rattle.clauses_bytes.proofs.bytes.+put_long.Given as goal

abbrev pub decreases-put_long : goal.decreases-put_long
decreases-put_long l = l.n
