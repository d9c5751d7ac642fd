-- The lines of an input by its bytes, in whatever chunks they come: what is still to be answered, of a line that is
-- begun and the bytes behind it.
-- Assumes nothing.
use Rattle.std.specs.Prelude.{true, false, List, [], ◌∷◌, ◌++◌, ℕ, eqb, ltb, length}

-- a line with one byte more; no more than 174 bytes of it are kept, since a line that long is unreadable, whatever
-- follows
unfoldable pub keeping : List ℕ → ℕ → List ℕ
keeping line c = elim (ltb (length line) 174) [ true ↦ line ++ (c ∷ []) | false ↦ line ]

-- the end of the input: a line that is begun is a line
unfoldable pub last_line : List ℕ → List (List ℕ)
last_line [] = []
last_line (c ∷ cs) = (c ∷ cs) ∷ []

-- the lines, as far as they are kept, of a line that is begun and the bytes behind it: a newline ends the line
unfoldable pub lines_from : List ℕ → List ℕ → List (List ℕ)
lines_from line [] = last_line line
lines_from line (c ∷ cs) = elim (eqb c 10) [ true ↦ line ∷ lines_from [] cs | false ↦ lines_from (keeping line c) cs ]
