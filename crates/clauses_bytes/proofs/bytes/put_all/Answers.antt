use Rattle.std.proofs.Common.{rules, sym}
use Rattle.std.proofs.lemmas.List.{take_more}
use Rattle.clauses_bytes.proofs.WritingLaws.{put2, put_nothing}
use Rattle.clauses_bytes.proofs.bytes.put_all.Goals as goal

pub loop-b-init : goal.loop-b-init
loop-b-init c = put_nothing _ _

pub loop-b-preserved : goal.loop-b-preserved
loop-b-preserved c = put2 c.put-next.ensures c.loop-b.invariant (sym (take_more _ _ _ (search rules)))
