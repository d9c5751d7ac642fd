-- The listed cases, each list one claim, by computation from the bytes of images.
-- Assumes nothing.
use mathlib.Core.Path.{◌≡◌}
use mathlib.Core.Bool.{true}
use Rattle.model.specs.Tests.{all}
use Rattle.model_cases.specs.Ward.{holds, starred, settled, carded}
use Rattle.model_cases.specs.ObstacleCases.{obstacle_cases}
use Rattle.model_cases.specs.Refusals.{is_judged, judged_images, is_looped, looped_images}
use Rattle.model_cases.specs.Returned.{is_seen, returned_cases, is_checked, checked_cases}
use Rattle.model_cases.specs.Texted.{is_texted, text_cases}
use Rattle.model_cases.specs.Apart.{Apart, ApartText}
use Rattle.model_cases.specs.MoveCases.{moves_so, move_cases}
use Rattle.model_cases.proofs.Cases
use Rattle.model_cases.proofs.TextedProof
use Rattle.model_cases.proofs.ApartProof

-- 01's starred cases
pub starred-cases : all holds starred ≡ true
starred-cases = Cases.starred_hold

-- further cases on what 01 says in words
pub settled-cases : all holds settled ≡ true
settled-cases = Cases.settled_hold

-- cases on limits
pub carded-cases : all holds carded ≡ true
carded-cases = Cases.carded_hold

-- cases on what stands in the way of an ask
pub obstacle_cases_lem : all holds obstacle_cases ≡ true
obstacle_cases_lem = Cases.obstacles_hold

-- images with their refusals 1 to 8, 22 and 23, each clause and each tie
pub judged-cases : all is_judged judged_images ≡ true
judged-cases = Cases.judged_so

-- images with the chain that the loop call shows, or its refusal
pub looped-cases : all is_looped looped_images ≡ true
looped-cases = Cases.looped_so

-- what a host sees: the number that a call returns, and the bytes of its answer buffer and of the ledger after it
pub returned-cases : all is_seen returned_cases ≡ true
returned-cases = Cases.returned_so

-- clause texts as a host sees them
pub texted_cases : all is_texted text_cases ≡ true
texted_cases = TextedProof.texted_so

-- what a check returns
pub checked_cases_lem : all is_checked checked_cases ≡ true
checked_cases_lem = Cases.checked_so

-- moves of a ledger of two users, done and refused
pub move-cases : all moves_so move_cases ≡ true
move-cases = Cases.moves_so_lem

-- two runs that differ in all that others may change are the same for a user
pub apart_runs : Apart
apart_runs = ApartProof.apart

pub apart_texts : ApartText
apart_texts = ApartProof.apart_text
