-- The listed clause texts, by computation from the bytes of images.
-- Assumes nothing.
use mathlib.Core.Path.{◌≡◌, refl}
use mathlib.Core.Bool.{true}
use Rattle.model.specs.Tests.{all}
use Rattle.model_cases.specs.Texted.{lines_text, quiet, two_of, is_texted, writes, turns_away, text_from, fewest, text_of_a, most, text_of_past, text_of_none, text_of_barred, four_roles, text_of_four, reducing, mixed, text_of_reducing, sixteen, text_of_sixteen, hundred, text_of_hundred, all_but_last, fresh, held, past, text_cases}
use Rattle.model_cases.proofs.Computing.{listing}

pub texted_so : all is_texted text_cases ≡ true
unfolding listing lines_text quiet two_of is_texted writes turns_away text_from fewest text_of_a most text_of_past text_of_none text_of_barred four_roles
    text_of_four
    reducing mixed text_of_reducing sixteen text_of_sixteen hundred text_of_hundred all_but_last fresh held past text_cases
texted_so = refl
