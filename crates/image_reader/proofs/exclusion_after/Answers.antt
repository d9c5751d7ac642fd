use borrow.Author.Rules.{rules}
use native.Mathlib.Omega.{arith}
use Rattle.image_reader.proofs.ExclusionLaws.{walk_begins, walk_stops, walk_goes, walk_ends}
use Rattle.image_reader.proofs.exclusion_after.Goals as goal

pub loop-at-init : goal.loop-at-init
loop-at-init c = search (rules, walk_begins)

pub returns-then-is_exclusion : goal.returns-then-is_exclusion
returns-then-is_exclusion c = (search (rules, walk_stops), omega (arith, c.loop-at.auto.at))

pub loop-at-preserved : goal.loop-at-preserved
loop-at-preserved c = search (rules, walk_goes)

pub returns : goal.returns
returns c = (search (rules, walk_ends), tt)
