-- `clauses_bytes::bytes::put_low` meets its contract: one, two or three digits.
-- Assumes nothing.
use Rattle.std.proofs.Common.{rules}
use Rattle.clauses_bytes.proofs.WritingLaws.{put_one, put_ten, put_hundred}
use Rattle.clauses_bytes.proofs.bytes.put_low.Goals as goal

pub returns-then-n-lt10 : goal.returns-then-n-lt10
returns-then-n-lt10 c = search (rules, put_one)

pub returns-then-n-lt100 : goal.returns-then-n-lt100
returns-then-n-lt100 c = search (rules, put_ten)

pub returns : goal.returns
returns c = search (rules, put_hundred)
