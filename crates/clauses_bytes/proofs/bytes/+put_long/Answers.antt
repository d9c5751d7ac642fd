-- `clauses_bytes::bytes::put_long` meets its contract: the digits before the last three, then those.
-- Assumes nothing.
use Rattle.std.proofs.Common.{rules}
use Rattle.clauses_bytes.proofs.WritingLaws.{put_thousand}
use Rattle.clauses_bytes.proofs.bytes.+put_long.Goals as goal

pub returns : goal.returns
returns t c = search (rules, put_thousand)
