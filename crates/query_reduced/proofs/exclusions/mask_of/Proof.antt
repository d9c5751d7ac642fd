-- `query_reduced::exclusions::mask_of` meets its contract.
-- Assumes nothing.
use mathlib.Core.Path.{refl}
use Rattle.model.specs.Reduced.{mask_of}
use Rattle.query_reduced.proofs.exclusions.mask_of.Statement.{statement}
use Rattle.query_reduced.proofs.exclusions.mask_of.Tie as tie

returns : tie.Need-returns
unfolding mask_of
returns c = refl

pub mask_of_spec : {M : Type 1} → statement M
mask_of_spec = tie.close (tie.spec returns)
