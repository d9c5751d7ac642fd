-- The survey follows image order: entries moved about may change its text.
-- Assumes nothing.
use Rattle.std.specs.Prelude.{◌≡◌, []}
use Rattle.model.specs.Words.{image_bytes}
use Rattle.model_tidy.specs.Order.{Reordered}
use Rattle.model_tidy.specs.OrderCases.{plain, turned}
use Rattle.model_survey.specs.Survey.{survey}

-- one of the listed images is the other with its entries moved about, and their surveys differ
pub record FollowsOrder : Type 0 where
  pub reordered : Reordered (image_bytes plain) (image_bytes turned)
  pub differ : ¬ (survey (image_bytes plain) [] ≡ survey (image_bytes turned) [])
