-- A table of bits turned (transposed): bit k of row r goes to bit r of row k. A row is a set, of whole bytes, the
-- lowest first.
-- Assumes nothing.
use Rattle.std.specs.Prelude.{◌≡◌, true, List, [], ◌++◌, ℕ, zero, suc, ◌*◌, ◌<◌, length}
use Rattle.std.proofs.Math.Pow.{are_bytes}
use Rattle.model.specs.Sets.{has, set_of}
use Rattle.model.specs.Bytes.{number, bytes_of}
use Rattle.model.specs.Run.{line_at}

-- row r of rows of z bytes each, as a set
unfoldable pub row_at : ℕ → List ℕ → ℕ → ℕ
row_at z bs r = number (line_at z r bs)

-- which of the d rows, of z bytes each, have k
unfoldable pub having : ℕ → ℕ → List ℕ → ℕ → ℕ
having z d bs k = set_of (λ r. has (row_at z bs r) k) d

-- the lists of n numbers from k on, one behind another
unfoldable pub joined : (ℕ → List ℕ) → ℕ → ℕ → List ℕ
joined f k zero = []
joined f k (suc n) = f k ++ joined f (suc k) n

-- 8 * w rows of z bytes made 8 * z rows of w bytes: row k is the set of the rows that have k
unfoldable pub turn : ℕ → ℕ → List ℕ → List ℕ
turn z w bs = joined (λ k. bytes_of w (having z (8 * w) bs k)) 0 (8 * z)

-- 64 rows of 256 bits made 256 rows of 64, and back
abbrev pub turned : List ℕ → List ℕ
turned bs = turn 32 8 bs

abbrev pub unturned : List ℕ → List ℕ
unturned bs = turn 8 32 bs

-- ---- claims, for bytes of 8 * w rows of z bytes
pub record Turns (z w : ℕ) (bs : List ℕ) : Type 0 where
  pub size : length (turn z w bs) ≡ length bs
  pub are_bytes_lem : are_bytes (turn z w bs) ≡ true
  pub bit : (r k : ℕ) → r < 8 * w → k < 8 * z → has (row_at w (turn z w bs) k) r ≡ has (row_at z bs r) k
  pub back : turn w z (turn z w bs) ≡ bs
