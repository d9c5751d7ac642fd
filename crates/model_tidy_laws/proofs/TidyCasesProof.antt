-- The listed images are accepted and have the tidy image that is listed, by computation from their bytes.
-- Assumes nothing.
use mathlib.Core.Path.{refl}
use Rattle.model.specs.Policy.{kind_number, before, insert, sorted}
use Rattle.model_tidy.specs.Groups.{spread}
use Rattle.model_tidy.specs.Tidy.{members_to, table_groups, exclusion_group, tidy_groups, tidy_words, tidy, tidy_of, tidy_by, tidy_call, limit_groups, limited_rows}
use Rattle.model_cases.specs.Refusals.{over_others}
use Rattle.model_tidy.specs.TidyCases.{jumbled, shuffled, neat, looped, over_reaching, sevens, refusing, TidyCases}
use Rattle.model.specs.Computing.{computing}
use Rattle.model.specs.Words.{limit_word}

pub tidy-cases : TidyCases
unfolding computing kind_number spread members_to table_groups exclusion_group before insert sorted limit_word limited_rows
    limit_groups tidy_groups tidy_words tidy tidy_of tidy_by tidy_call jumbled shuffled neat looped over_reaching over_others sevens
    refusing
tidy-cases =
    record {
      accepted = refl;
      jumbled_tidy = refl;
      shuffled_tidy = refl;
      neat_tidy = refl;
      exact = refl;
      longer = refl;
      short = refl;
      bad = refl;
      open_ended = refl;
      loop = refl;
      loop-short = refl;
      reach = refl;
      reach_short = refl;
    }
