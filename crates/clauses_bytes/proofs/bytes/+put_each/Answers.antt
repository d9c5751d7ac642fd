-- `clauses_bytes::bytes::put_each` meets its contract: the lowest byte, then those above it.
-- Assumes nothing.
use Rattle.std.proofs.Common.{rules}
use Rattle.clauses_bytes.proofs.PackedLaws.{each_only, each_last, each_more}
use Rattle.clauses_bytes.proofs.bytes.+put_each.Goals as goal

pub returns-then-k-lt1 : goal.returns-then-k-lt1
returns-then-k-lt1 t c = search (rules, each_only)

pub returns-then-p-lt256 : goal.returns-then-p-lt256
returns-then-p-lt256 t c = search (rules, each_last)

pub returns : goal.returns
returns t c = search (rules, each_more)
