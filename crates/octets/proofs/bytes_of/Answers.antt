-- `octets::bytes_of` meets its contract.
-- Assumes nothing.
use Rattle.std.proofs.Common.{◌∙◌}
use Rattle.octets.proofs.Numbers.{bytes_of-le}
use Rattle.octets.proofs.bytes_of.Goals as goal

pub returns : goal.returns
returns c = c.to_le_bytes.ensures ∙ bytes_of-le c.args.v
