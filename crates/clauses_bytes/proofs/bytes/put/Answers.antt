-- `clauses_bytes::bytes::put` meets its contract: a byte inside the buffer is stored, one outside is not.
-- Assumes nothing.
use Rattle.std.proofs.Common.{rules}
use Rattle.clauses_bytes.proofs.WritingLaws.{put_in_lem, put_out}
use Rattle.clauses_bytes.proofs.bytes.put.Goals as goal

pub returns-then-at-out : goal.returns-then-at-out
returns-then-at-out c = put_in_lem _ _ _ (search rules) (search rules)

pub returns : goal.returns
returns c = put_out _ _ _ _ (search rules) (search rules)
