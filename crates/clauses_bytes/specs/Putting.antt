-- Texts stored into a buffer that may be too short: what lies past its end is only counted. Places are words of 64
-- bits and wrap, so that a text can be put at any place; where place and length are below 2 ^ 64, as those of every
-- clause text are, nothing wraps.
-- Assumes nothing.
use Rattle.std.specs.Prelude.{◌≡◌, ℕ, zero, suc, ◌+◌, ◌/◌, ◌%◌, ◌^◌, ◌≤◌, true, false, List, [], ◌∷◌, length, nat_lt, slice_set}

-- the place behind a text that starts at a place
unfoldable pub behind : ℕ → List ℕ → ℕ
behind at [] = at
behind at (b ∷ bs) = behind ((at + 1) % 2 ^ 64) bs

-- the buffer with a text stored from a place on, as far as it reaches
unfoldable pub stored : List ℕ → ℕ → List ℕ → List ℕ
stored l at [] = l
stored l at (b ∷ bs) = stored (slice_set l at b) ((at + 1) % 2 ^ 64) bs

-- a text is put into a buffer from a place on; next is the place behind it
pub record Puts (before : List ℕ) (at : ℕ) (text after : List ℕ) (next : ℕ) : Type 0 where
  pub next-is : next ≡ behind at text
  pub after_is : after ≡ stored before at text

-- a text of at most k bytes is put into a buffer that has room for it
pub record Sets (before : List ℕ) (at k : ℕ) (text after : List ℕ) (next : ℕ) : Type 0 where
  pub puts : Puts before at text after next
  pub reached : next ≤ at + k
  pub size : length after ≡ length before

-- the bytes of a number, at most k and one more, the lowest first, up to the last that is not 0
unfoldable pub packed_to : ℕ → ℕ → List ℕ
packed_to zero p = p % 256 ∷ []
packed_to (suc k) p = elim (nat_lt p 256) [ true ↦ p % 256 ∷ [] | false ↦ p % 256 ∷ packed_to k (p / 256) ]

-- a text of at most five bytes, packed into a number
abbrev pub packed_text : ℕ → List ℕ
packed_text p = packed_to 4 p
