-- `clauses_text::whole::put_text` meets its contract.
-- Assumes nothing.
use Rattle.clauses_bytes.proofs.WritingLaws.{put3}
use Rattle.clauses_text.proofs.WholeLaws.{whole_text}
use Rattle.clauses_text.proofs.whole.put_text.Goals as goal

pub returns : goal.returns
returns c a b h k =
    put3 (c.put_soft.ensures a b h k) c.put_hard-b.ensures (rw c.last_plain.ensures.0 at c.put_head-a.ensures)
    (whole_text _ _ _ _ _ _ _ _ _ _ _ _ _ _ _ _ c.packed.ensures (c.top_weight-w.ensures.0 a b h k) c.helpers_of.ensures.0
    c.hard_size-hard.ensures.0 (c.soft_size.ensures.0 a b h k))
