-- What a text needs of a buffer, and a text that is written if it fits.
-- Assumes nothing.
use Rattle.std.specs.Prelude.{◌≡◌, List, ◌++◌, ℕ, ◌≤◌, ◌<◌, length, drop}

-- more than the room exactly where the text is longer than that, and then the text's length
pub record Needs (room : ℕ) (text : List ℕ) (size : ℕ) : Type 0 where
  pub too_long : room < size → size ≡ length text
  pub fits : size ≤ room → length text ≤ room

-- a text is written to the front of a buffer if it fits, else nothing is; its length is told either way
pub record Written (before text after : List ℕ) (size : ℕ) : Type 0 where
  pub size_is : size ≡ length text
  pub fitting : length text ≤ length before → after ≡ text ++ drop (length text) before
  pub refused : length before < length text → after ≡ before
