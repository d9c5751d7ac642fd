-- What the functions that write bytes and digits do.
-- Assumes nothing.
use Rattle.std.specs.Prelude.{◌≡◌, List, [], ◌∷◌, ℕ, ◌+◌, ◌/◌, ◌%◌, length, take}
use Rattle.std.proofs.lemmas.List.Edits.{sets}
use Rattle.model_script.specs.Script.{glyph}
use Rattle.script_text.specs.declared.Writer.{Writer}

-- a text is stored in a buffer from a place on, and nothing else is changed; next is the place behind it
pub record Stores (before : List ℕ) (at : ℕ) (text after : List ℕ) (next : ℕ) : Type 0 where
  pub next-is : next ≡ at + length text
  pub after_is : after ≡ sets before at text

-- the text that is written so far
abbrev pub written : Writer → List ℕ
written w = take w.at w.out.now

-- a writer has written a text, into the same buffer
pub record Writes (old new : Writer) (text : List ℕ) : Type 0 where
  pub same_buffer : new.out.ghost_name ≡ old.out.ghost_name
  pub size : length new.out.now ≡ length old.out.now
  pub stores : Stores old.out.now old.at text new.out.now new.at

-- both hexadecimal digits of a byte
unfoldable pub pair_of : ℕ → List ℕ
pair_of b = glyph (b / 16) ∷ glyph (b % 16) ∷ []
