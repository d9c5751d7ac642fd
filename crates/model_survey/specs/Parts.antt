-- The survey in two parts: what is printed before the script is read, and behind it.
-- Assumes nothing.
use Rattle.std.specs.Prelude.{Bool, true, false, List, [], ℕ}
use Rattle.model.specs.declared.Checked.{Checked}
use Rattle.model.specs.declared.Checked.TheVariants.{Accepted, Refused}
use Rattle.model.specs.Policy.{policy_of}
use Rattle.model_survey.specs.Survey.{two_figures, exclusion_lines, count_lines}

-- what is printed before the script is read: all of it, for a refused image
unfoldable pub opening_of : Checked → List ℕ → List ℕ
opening_of (Refused n place) image = two_figures n place
opening_of (Accepted h) image = exclusion_lines (policy_of image).exclusions

-- and what is printed for the counts behind it
unfoldable pub closing_of : Checked → (ℕ → ℕ) → List ℕ
closing_of (Refused n place) f = []
closing_of (Accepted h) f = count_lines f 256

unfoldable pub is_accepted : Checked → Bool
is_accepted (Refused n place) = false
is_accepted (Accepted h) = true
