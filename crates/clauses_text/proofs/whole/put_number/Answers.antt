-- `clauses_text::whole::put_number` meets its contract.
-- Assumes nothing.
use Rattle.std.proofs.Common.{rules}
use Rattle.clauses_bytes.proofs.WritingLaws.{put2}
use Rattle.clauses_text.proofs.whole.put_number.Goals as goal

pub returns : goal.returns
returns c = search (rules, put2)
