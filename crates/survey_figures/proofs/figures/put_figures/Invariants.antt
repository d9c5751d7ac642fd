-- Figure after figure; what is done and what is left are the whole.
-- Assumes nothing.
use mathlib.Core.Path.{◌≡◌}
use mathlib.Core.List.{List, ◌++◌}
use Prim.Native.Nat.{ℕ, ◌+◌, ◌*◌, ◌≤◌}
use lib.ListN.{drop}
use Rattle.script_text.specs.Writing.{Writes}
use Rattle.survey_figures.specs.Figures.{figures_behind, figures_from}
use Rattle.survey_figures.proofs.figures.put_figures.Given as goal

abbrev pub invariant-loop-figure : goal.invariant-loop-figure
invariant-loop-figure l =
    (l.text.at ≤ l.fn.text.at + 21 * l.figure-index + 20)
    × ((done : List ℕ) × (figures_from l.first l.others ≡ done ++ figures_behind (drop l.figure-index l.others)) × Writes l.fn.text l.text done)
