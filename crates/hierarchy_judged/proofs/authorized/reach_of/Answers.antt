-- `hierarchy_judged::authorized::reach_of` meets its contract.
-- Assumes nothing.
use Rattle.hierarchy_judged.proofs.Reaching.{reach_alone}
use Rattle.hierarchy_judged.proofs.authorized.reach_of.Goals as goal

pub returns-then-set-seniors-eq0 : goal.returns-then-set-seniors-eq0
returns-then-set-seniors-eq0 c = reach_alone _ _ _ c.ranges.set.fits c.requires c.if-set-seniors-eq0.true
