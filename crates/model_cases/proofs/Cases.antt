-- The listed cases hold, by computation from the bytes of the images.
-- Assumes nothing.
use mathlib.Core.Path.{◌≡◌, refl}
use mathlib.Core.Bool.{true}
use Rattle.model.specs.Tests.{all}
use Rattle.model_cases.specs.Ward.{holds, starred, settled, carded}
use Rattle.model_cases.specs.ObstacleCases.{obstacle_cases}
use Rattle.model_cases.specs.Refusals.{is_judged, judged_images, is_looped, looped_images}
use Rattle.model_cases.specs.Returned.{is_seen, returned_cases, is_checked, checked_cases}
use Rattle.model_cases.specs.MoveCases.{moves_so, move_cases}
use Rattle.model_cases.proofs.Computing.{listing}

pub starred_hold : all holds starred ≡ true
unfolding listing
starred_hold = refl

pub settled_hold : all holds settled ≡ true
unfolding listing
settled_hold = refl

pub carded_hold : all holds carded ≡ true
unfolding listing
carded_hold = refl

pub obstacles_hold : all holds obstacle_cases ≡ true
unfolding listing
obstacles_hold = refl

pub judged_so : all is_judged judged_images ≡ true
unfolding listing
judged_so = refl

pub looped_so : all is_looped looped_images ≡ true
unfolding listing
looped_so = refl

pub returned_so : all is_seen returned_cases ≡ true
unfolding listing
returned_so = refl

pub checked_so : all is_checked checked_cases ≡ true
unfolding listing
checked_so = refl

pub moves_so_lem : all moves_so move_cases ≡ true
unfolding listing
moves_so_lem = refl
