-- 01's ledger byte by byte: which bit of which byte says what of a user's line; and what a call leaves in a buffer,
-- byte by byte.
-- Assumes nothing.
use Rattle.std.specs.Prelude.{◌≡◌, Bool, List, ℕ, ◌+◌, ◌*◌, ◌/◌, ◌%◌, ◌≤◌, ◌<◌, length, get_or}
use Rattle.model.specs.Sets.{has}
use Rattle.model.specs.Line.{line_size, session_at}
use Rattle.model.specs.Session.{Reply}
use Rattle.model.specs.Run.{line_of, answered, written}

-- bit i of the eight bytes from byte b on, in the line of user u; a line has 16 bytes and 16 more for each of W
-- sessions
unfoldable pub bit_at : ℕ → List ℕ → ℕ → ℕ → ℕ → Bool
bit_at W ledger u b i = has (get_or ledger ((16 + 16 * W) * u + (b + i / 8)) 0) (i % 8)

-- bytes 0 to 7 are the open sessions, 8 to 15 the user's history, then for each session 8 are its active roles and 8
-- its history
pub record LedgerIs (W : ℕ) (ledger : List ℕ) (u : ℕ) : Type 0 where
  pub size : line_size W ≡ 16 + 16 * W
  pub opened : (k : ℕ) → k < 64 → has (line_of W ledger u).opened k ≡ bit_at W ledger u 0 k
  pub history : (r : ℕ) → r < 64 → has (line_of W ledger u).history r ≡ bit_at W ledger u 8 r
  pub active : (j r : ℕ) → j < W → r < 64 → has (session_at (line_of W ledger u) j).active r ≡ bit_at W ledger u (16 + 16 * j) r
  pub past : (j r : ℕ) → j < W → r < 64 → has (session_at (line_of W ledger u) j).history r ≡ bit_at W ledger u (24 + 16 * j) r

-- an answer buffer is left as it was where nothing fills it, and is else what fills it; the buffer of a clause text is
-- the text, and behind it as it was
pub record BuffersAre (buffer : List ℕ) (r : Reply) : Type 0 where
  pub left : length r.filled ≡ 0 → answered buffer r ≡ buffer
  pub filled : 0 < length r.filled → answered buffer r ≡ r.filled
  pub text : (i : ℕ) → i < length r.filled → get_or (written buffer r) i 0 ≡ get_or r.filled i 0
  pub behind : (i : ℕ) → length r.filled ≤ i → get_or (written buffer r) i 0 ≡ get_or buffer i 0
