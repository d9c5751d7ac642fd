-- `limits_counts::Counts::none` meets its contract.
-- Assumes nothing.
use Rattle.limits_counts.proofs.Planes.{none_counted}
use Rattle.limits_counts.proofs.Counts.none.Goals as goal

pub returns : goal.returns
returns c r = none_counted r
