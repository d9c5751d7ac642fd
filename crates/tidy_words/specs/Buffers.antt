-- Words written one behind another into bytes, and where the next one goes.
-- Assumes nothing.
use Rattle.std.specs.Prelude.{◌≡◌, ℕ, ◌+◌, ◌*◌, ◌%◌, ◌^◌, ◌≤◌, List, [], ◌∷◌, map, length}
use Rattle.model.specs.Bytes.{bytes_of}
use Rattle.octets.specs.Splice.{splice}
use Rattle.model_tidy.specs.Tidy.{members_to}
use Rattle.tidy_words.specs.declared.words.Writer.{Writer}

-- bytes that words are written into: where the next word goes, and the sum of the words so far, of 32 bits
pub record Buffer : Type 0 where
  pub bytes : List ℕ
  pub at : ℕ
  pub sum : ℕ

-- what a writer has written
abbrev pub written : Writer → Buffer
written w = record { bytes = w.out.now; at = w.at; sum = w.sum }

-- a buffer before its first word
abbrev pub unwritten : List ℕ → Buffer
unwritten out = record { bytes = out; at = 0; sum = 0 }

unfoldable pub put_word : Buffer → ℕ → Buffer
put_word s w = record { bytes = splice s.bytes s.at (bytes_of 4 w); at = s.at + 4; sum = (s.sum + w) % 2 ^ 32 }

-- the words, one behind another
unfoldable pub puts : Buffer → List ℕ → Buffer
puts s [] = s
puts s (w ∷ ws) = puts (put_word s w) ws

-- there is room for the words
abbrev pub Room : Buffer → List ℕ → Type 0
Room s ws = s.at + 4 * length ws ≤ length s.bytes

-- a word for each member of a set of numbers below d, ascending: the first word and so many units as the member's
-- number says
unfoldable pub set_words : ℕ → ℕ → ℕ → ℕ → List ℕ
set_words d first unit s = map (λ j. first + j * unit) (members_to d s)

-- a writer has written the words, into the same bytes
pub record Puts (old new : Writer) (ws : List ℕ) : Type 0 where
  pub same_bytes : new.out.ghost_name ≡ old.out.ghost_name
  pub words : written new ≡ puts (written old) ws
