-- `clauses_bytes::bytes::set_packed` meets its contract: one to five bytes.
-- Assumes nothing.
use Rattle.std.proofs.Common.{rules}
use Rattle.clauses_bytes.proofs.PackedLaws.{set_packed_one, set_packed_two, set_packed_three, set_packed_four, set_packed_five}
use Rattle.clauses_bytes.proofs.bytes.set_packed.Goals as goal

pub returns-then-p-lt256 : goal.returns-then-p-lt256
returns-then-p-lt256 c = search (rules, set_packed_one)

pub returns-then-p-lt65536 : goal.returns-then-p-lt65536
returns-then-p-lt65536 c = search (rules, set_packed_two)

pub returns-then-p-lt16777216 : goal.returns-then-p-lt16777216
returns-then-p-lt16777216 c = search (rules, set_packed_three)

pub returns-then-p-lt4294967296 : goal.returns-then-p-lt4294967296
returns-then-p-lt4294967296 c = search (rules, set_packed_four)

pub returns : goal.returns
returns c = search (rules, set_packed_five)
