-- What the functions that write an image's exclusions need.
-- Assumes nothing.
use Rattle.std.specs.Prelude.{◌^◌, ◌≤◌, ◌<◌}
use Rattle.model.specs.declared.Exclusion.{Exclusion}
use Rattle.model.specs.Sets.{count}
use Rattle.model_survey.specs.Survey.{allowed}

-- n is at most the number of members, of which there are at most 64, and the number of allowed sets fits 64 bits
pub record Fitting (x : Exclusion) : Type 0 where
  pub n : x.n ≤ count 64 x.members
  pub size : count 64 x.members ≤ 64
  pub sets : allowed x < 2 ^ 64
