-- `octets::word_at` meets its contract.
-- Assumes nothing.
use Rattle.std.proofs.Common.{ap, ◌∙◌}
use Rattle.std.specs.Int.{w32, from_le_bytes}
use Rattle.octets.proofs.Numbers.{word-le}
use Rattle.octets.proofs.word_at.Goals as goal

pub returns : goal.returns
returns c =
    let read = rw c.unwrap.ensures at c.try_into.ensures in
    c.from_le_bytes.ensures ∙ ap (from_le_bytes w32) read.1.same ∙ word-le c.args.s.now c.args.place c.requires
