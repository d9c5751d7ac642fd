-- Lines of clauses of one weight, which is a packed text.
-- Assumes nothing.
use Rattle.std.specs.Prelude.{List, [], ◌∷◌, ◌++◌, ℕ}
use Rattle.model.specs.Clauses.{Clause}
use Rattle.model.specs.Dimacs.{literals_text}
use Rattle.clauses_bytes.specs.Putting.{packed_text}

-- the line of a clause behind the weight w
unfoldable pub line_of : ℕ → Clause → List ℕ
line_of w c = packed_text w ++ (literals_text c ++ (32 ∷ 48 ∷ 10 ∷ []))

-- the lines of clauses behind the weight w
unfoldable pub lines_of : ℕ → List Clause → List ℕ
lines_of w [] = []
lines_of w (c ∷ cs) = line_of w c ++ lines_of w cs
