-- The figures of an exclusion.
-- Assumes nothing.
use native.Mathlib.Omega.{arith}
use Rattle.script_text.proofs.TextLaws.{writes_as}
use Rattle.survey_exclusions.proofs.ExclusionLaws.{exclusion_is}
use Rattle.survey_exclusions.proofs.exclusions.put_exclusion.Goals as goal

pub allowed-sets-requires : goal.allowed-sets-requires
allowed-sets-requires c =
    (omega (arith, c.requires.1.n, c.size-size.ensures), omega (arith, c.requires.1.size, c.size-size.ensures))

pub returns : goal.returns
returns c =
    let x = exclusion_is c.args.x _ _ _ c.number_of-which.ensures c.size-size.ensures c.allowed-sets.ensures in
    (writes_as x c.put_four.ensures.0, c.put_four.ensures.1)
