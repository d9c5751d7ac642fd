-- `octets::get_u64` meets its contract.
-- Assumes nothing.
use Rattle.std.proofs.Common.{ap, ◌∙◌}
use Rattle.std.specs.Int.{w64, from_le_bytes}
use Rattle.octets.proofs.Numbers.{number-le}
use Rattle.octets.proofs.get_u64.Goals as goal

pub returns : goal.returns
returns c =
    let read = rw c.unwrap.ensures at c.try_into.ensures in
    c.from_le_bytes.ensures ∙ ap (from_le_bytes w64) read.1.same ∙ number-le c.args.s.now c.args.at c.requires
