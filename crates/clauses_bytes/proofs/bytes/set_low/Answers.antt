-- `clauses_bytes::bytes::set_low` meets its contract: one, two or three digits.
-- Assumes nothing.
use Rattle.std.proofs.Common.{rules}
use Rattle.clauses_bytes.proofs.RoomLaws.{set_ones, set_tens, set_hundreds}
use Rattle.clauses_bytes.proofs.bytes.set_low.Goals as goal

pub returns-then-n-lt10 : goal.returns-then-n-lt10
returns-then-n-lt10 c = search (rules, set_ones)

pub returns-then-n-lt100 : goal.returns-then-n-lt100
returns-then-n-lt100 c = search (rules, set_tens)

pub returns : goal.returns
returns c = search (rules, set_hundreds)
