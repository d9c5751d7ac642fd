-- What the functions over a chunk of the input do to the line that is begun.
-- Assumes nothing.
use Rattle.std.specs.Prelude.{◌≡◌, List, [], ◌∷◌, ◌++◌, ℕ, ◌≤◌, ◌<◌, length, get_or, drop}
use Rattle.script_input.specs.Kept.{keeping, lines_from}

-- a line with more bytes, one after the other
unfoldable pub keeping_all : List ℕ → List ℕ → List ℕ
keeping_all line [] = line
keeping_all line (c ∷ cs) = keeping_all (keeping line c) cs

-- the bytes of a chunk from `next` on are kept, up to place r, which is that of a newline or the chunk's end: whatever
-- comes behind the chunk, the lines are the same
pub record Gathers (chunk : List ℕ) (next : ℕ) (before behind : List ℕ) (r : ℕ) : Type 0 where
  pub onward : next ≤ r
  pub inside : r ≤ length chunk
  pub newline : r < length chunk → get_or chunk r 0 ≡ 10
  pub same : (more : List ℕ) → lines_from before (drop next chunk ++ more) ≡ lines_from behind (drop r chunk ++ more)
