-- The parts of a line of figures, one behind the other.
-- Assumes nothing.
use mathlib.Core.Path.{◌≡◌}
use mathlib.Core.List.{List, [], ◌∷◌, ◌++◌, append_assoc}
use Prim.Native.Nat.{ℕ, ◌+◌, ◌≤◌, ◌<◌}
use lib.ListN.{length, get_or, drop, drop_of_length-le}
use lib.Seq.{drop-cons}
use native.Mathlib.Numerals.{add-one}
use Rattle.model_script.specs.Script.{numeral}
use Rattle.model_survey.specs.Survey.{two_figures, four_figures}
use Rattle.survey_figures.specs.Figures.{figures_behind, figures_from}

pub two_from : (a b : ℕ) → figures_from a (b ∷ []) ≡ two_figures a b
unfolding figures_from figures_behind two_figures
two_from a b = simp append_assoc

pub four_from : (a b c d : ℕ) → figures_from a (b ∷ c ∷ d ∷ []) ≡ four_figures a b c d
unfolding figures_from figures_behind four_figures
four_from a b c d = simp append_assoc

-- the figures from place i on, and those behind the next
pub next_figure : (ns : List ℕ) (i : ℕ) → i < length ns
    → figures_behind (drop i ns) ≡ (32 ∷ numeral 10 (get_or ns i 0)) ++ figures_behind (drop (i + 1) ns)
unfolding figures_behind
next_figure ns i h = rw (drop-cons ns i 0 h, add-one i)

pub no_figure : (ns : List ℕ) (i : ℕ) → length ns ≤ i → figures_behind (drop i ns) ≡ 10 ∷ []
unfolding figures_behind
no_figure ns i h = rw (drop_of_length-le ns h)
