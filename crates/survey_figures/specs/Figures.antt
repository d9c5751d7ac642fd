-- The text of a line of figures.
-- Assumes nothing.
use Rattle.std.specs.Prelude.{List, [], ◌∷◌, ◌++◌, ℕ}
use Rattle.model_script.specs.Script.{numeral}

-- the figures behind the first, a blank before each, and the newline
unfoldable pub figures_behind : List ℕ → List ℕ
figures_behind [] = 10 ∷ []
figures_behind (n ∷ ns) = (32 ∷ numeral 10 n) ++ figures_behind ns

-- the line of a first figure and the others
unfoldable pub figures_from : ℕ → List ℕ → List ℕ
figures_from n ns = numeral 10 n ++ figures_behind ns
