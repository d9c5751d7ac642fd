-- `clauses_text::whole::put_hard` meets its contract.
-- Assumes nothing.
use Rattle.clauses_text.proofs.WholeLaws.{hard_text}
use Rattle.clauses_bytes.proofs.WritingLaws.{put6}
use Rattle.clauses_text.proofs.whole.put_hard.Goals as goal

pub returns : goal.returns
returns c =
    put6 (rw c.last_plain.ensures.0 at c.put_counters.ensures) c.put_upper_bound-e.ensures c.put_lower_bound-d.ensures
    c.put_carried-c.ensures c.put_carrying-b.ensures c.put_barring-a.ensures (hard_text _ _ _ _ _ _ _ _ _ _)
