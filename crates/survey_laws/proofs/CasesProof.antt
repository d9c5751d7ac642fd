-- The listed surveys print what is written beside them, by computation from the bytes of the images and inputs.
-- Assumes nothing.
use mathlib.Core.Path.{◌≡◌, refl}
use mathlib.Core.Bool.{true}
use Rattle.model.specs.Tests.{all}
use Rattle.model.specs.Policy.{kind_number}
use Rattle.model_script.proofs.Computing.{scripting}
use Rattle.model_binomials.specs.Binomial.{binomial, sum_below}
use Rattle.model_survey.specs.Survey.{answers_for, answers_of, count_of, two_figures, four_figures, allowed, exclusion_line, exclusion_lines, count_line, count_lines, survey_by, survey}
use Rattle.survey_laws.specs.Cases.{surveyed, of, five_roles, cases}

pub cases_print : all surveyed cases ≡ true
unfolding scripting kind_number binomial sum_below answers_for answers_of count_of two_figures four_figures allowed exclusion_line exclusion_lines
    count_line count_lines survey_by survey surveyed of five_roles cases
cases_print = refl
