-- `clauses_text::whole::put_head` meets its contract.
-- Assumes nothing.
use mathlib.Core.Path.{refl}
use Rattle.model.specs.Dimacs.{head_text}
use Rattle.clauses_bytes.proofs.WritingLaws.{put5}
use Rattle.clauses_text.proofs.whole.put_head.Goals as goal

pub returns : goal.returns
unfolding head_text
returns c =
    put5 c.put.ensures c.put_number-d.ensures c.put_number-c.ensures c.put_long-b.ensures c.put_mark-a.ensures refl
