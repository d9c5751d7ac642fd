-- The words of a table of 2,048 bytes, by columns and by groups of rows.
-- Assumes nothing.
use Rattle.std.specs.Prelude.{◌≡◌, List, ℕ, ◌+◌, ◌*◌, ◌<◌, get_or}
use Rattle.model.specs.Sets.{has, set_of}
use Rattle.octets.specs.Splice.{number_at}
use Rattle.model.specs.Bytes.{bytes_of}
use Rattle.grant_table_words.specs.Stages.{column_of}
use Rattle.grant_table_turned.specs.Turned.{row_at, joined}

-- 64 numbers from an offset on, so many bytes apart
abbrev pub Numbers : List ℕ → ℕ → ℕ → List ℕ → Type 0
Numbers bs from step a = (i : ℕ) → i < 64 → get_or a i 0 ≡ number_at bs (from + step * i)

-- the bytes of 64 words turned: which of them have each of 64 bits
unfoldable pub turned_bytes : List ℕ → List ℕ
turned_bytes a = joined (λ k. bytes_of 8 (column_of a k)) 0 64

-- which of the 64 rows of one word from row 64 * w on have each of 64 bits
abbrev pub Part : List ℕ → ℕ → List ℕ → Type 0
Part bs w a = (r : ℕ) → r < 64 → get_or a r 0 ≡ set_of (λ i. has (row_at 8 bs (64 * w + i)) r) 64
