-- `octets::put` meets its contract.
-- Assumes nothing.
use Rattle.std.proofs.Common.{length, refl, arith, ◌∙◌}
use Rattle.std.proofs.lemmas.Slice.{put_mid-paste}
use Rattle.octets.proofs.Splices.{splice_paste}
use Rattle.octets.proofs.put.Goals as goal

pub returns : goal.returns
returns c =
    put_mid-paste c.args.at _ c.args.s.now c.copy_from_slice.new.self c.args.bytes.now (length c.args.bytes.now)
    c.copy_from_slice.ensures.after (omega arith) refl
    ∙ splice_paste c.args.s.now c.args.at c.args.bytes.now
