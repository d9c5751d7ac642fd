-- The surveys of two listed images, of which one is the other with its entries moved about, differ, by computation.
-- Assumes nothing.
use mathlib.Core.Path.{◌≡◌, ap}
use mathlib.Core.Bool.{true≢false}
use mathlib.Core.List.{[]}
use Rattle.model.specs.Policy.{kind_number}
use Rattle.model.specs.Words.{image_bytes}
use Rattle.model.specs.Tests.{same_list}
use Rattle.model_script.proofs.Computing.{scripting}
use Rattle.model_binomials.specs.Binomial.{binomial, sum_below}
use Rattle.model_tidy.specs.OrderCases.{plain, turned}
use Rattle.model_tidy_laws.proofs.Theorems.{order_cases}
use Rattle.model_survey.specs.Survey.{answers_for, answers_of, count_of, two_figures, four_figures, allowed, exclusion_line, exclusion_lines, count_line, count_lines, survey_by, survey}
use Rattle.survey_laws.specs.Order.{FollowsOrder}

differ : ¬ (survey (image_bytes plain) [] ≡ survey (image_bytes turned) [])
unfolding scripting kind_number binomial sum_below answers_for answers_of count_of two_figures four_figures allowed exclusion_line exclusion_lines
    count_line count_lines survey_by survey plain turned
differ e = true≢false (ap (same_list (survey (image_bytes plain) [])) e)

pub follows_order : FollowsOrder
follows_order = record { reordered = order_cases.reordered; differ = differ }
