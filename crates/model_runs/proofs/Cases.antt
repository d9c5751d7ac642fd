-- The listed cases hold, by computation from the bytes of the images.
-- Assumes nothing.
use mathlib.Core.Path.{◌≡◌, refl}
use mathlib.Core.Bool.{true}
use Rattle.model.specs.Tests.{all}
use Rattle.model_cases.proofs.Computing.{listing}
use Rattle.model_stopped.specs.Stopped.{stopped_set, telling, stopped_on, stopped_by, stopped_call}
use Rattle.model_stopped.specs.StoppedCases.{answers_so, tells, refuses, stopped_cases}

pub stopped_so : all answers_so stopped_cases ≡ true
unfolding listing stopped_set telling stopped_on stopped_by stopped_call answers_so tells refuses stopped_cases
stopped_so = refl
