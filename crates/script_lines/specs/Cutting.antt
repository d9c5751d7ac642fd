-- The words of a line that are left.
-- Assumes nothing.
use Rattle.std.specs.Prelude.{List, [], ◌∷◌, ℕ, Option, Some, None}
use Rattle.std.proofs.Common.{Bor}
use Rattle.model_script.specs.Script.{words}
use Rattle.script_lines.specs.declared.lines.Words.{Words}

-- the words of what is left of a line, none behind the last word
unfoldable pub words_in : Option (Bor (List ℕ)) → List (List ℕ)
words_in None = []
words_in (Some rest) = words rest.now

abbrev pub words_left : Words → List (List ℕ)
words_left w = words_in w.rest

-- no word is left
unfoldable pub nothing_left : List (List ℕ) → Option (Unit {0})
nothing_left [] = Some tt
nothing_left (w ∷ ws) = None
