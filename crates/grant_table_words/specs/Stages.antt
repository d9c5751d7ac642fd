-- 64 words of 64 bits turned by exchanges: each exchanges the bits at the places of a mask with those j further, in
-- rows j apart.
-- Assumes nothing.
use Rattle.std.specs.Prelude.{◌≡◌, Bool, true, ◌&&◌, not, List, ℕ, ◌+◌, ◌-◌, ◌≤◌, ◌<◌, eqb, ltb, leb, get_or, set, length}
use Rattle.model.specs.Tests.{pick, all_below}
use Rattle.model.specs.Sets.{has, one, set_of}

-- the mask m marks one of each two places that are j apart, the lower one
unfoldable pub marks : ℕ → ℕ → Bool
marks j m = all_below (λ c. pick (has m c) (ltb (c + j) 64 && not (has m (c + j))) (leb j c && has m (c - j))) 64

-- the other place of the two
unfoldable pub across : ℕ → ℕ → ℕ → ℕ
across j m x = pick (has m x) (x + j) (x - j)

-- both are marked, or neither
unfoldable pub alike : ℕ → ℕ → ℕ → Bool
alike m x y = eqb (one (has m x)) (one (has m y))

-- a bit of a row
pub record Place : Type 0 where
  pub row : ℕ
  pub bit : ℕ

-- where the bit at a place comes from
unfoldable pub source : ℕ → ℕ → Place → Place
source j m q = pick (alike m q.row q.bit) q (record { row = across j m q.row; bit = across j m q.bit })

-- a bit of the words a
unfoldable pub bit_at : List ℕ → Place → Bool
bit_at a q = has (get_or a q.row 0) q.bit

-- row k after the exchange
unfoldable pub exchanged : ℕ → ℕ → List ℕ → ℕ → ℕ
exchanged j m a k = set_of (λ c. bit_at a (source j m (record { row = k; bit = c }))) 64

-- the row of a marked place, made of itself and the one j further, and that of the other
unfoldable pub low_row : ℕ → ℕ → ℕ → ℕ → ℕ
low_row j m own other = set_of (λ c. pick (has m c) (has own c) (has other (c - j))) 64

unfoldable pub high_row : ℕ → ℕ → ℕ → ℕ → ℕ
high_row j m own other = set_of (λ c. pick (has m c) (has other (c + j)) (has own c)) 64

-- b with row k and the one j further as they are after the exchange
abbrev pub paired : ℕ → ℕ → List ℕ → ℕ → List ℕ → List ℕ
paired j m a k b = set (set b k (exchanged j m a k)) (k + j) (exchanged j m a (k + j))

-- the j places from one on are marked
abbrev pub MarkedFrom : ℕ → ℕ → ℕ → Type 0
MarkedFrom j m from = (k : ℕ) → from ≤ k → k < from + j → k < 64 → has m k ≡ true

-- of 64 rows those from one up to another, and those j further, are exchanged; the ones before are kept
pub record Blocked (j m from to : ℕ) (a before after : List ℕ) : Type 0 where
  pub size : length after ≡ 64
  pub kept : (i : ℕ) → i < from → get_or after i 0 ≡ get_or before i 0
  pub low : (i : ℕ) → from ≤ i → i < to → get_or after i 0 ≡ exchanged j m a i
  pub high : (i : ℕ) → from + j ≤ i → i < to + j → get_or after i 0 ≡ exchanged j m a i

-- all rows are exchanged
abbrev pub Exchanged : ℕ → ℕ → List ℕ → List ℕ → Type 0
Exchanged j m a b = (k : ℕ) → k < 64 → get_or b k 0 ≡ exchanged j m a k

-- which of the 64 words have k
unfoldable pub column_of : List ℕ → ℕ → ℕ
column_of a k = set_of (λ r. has (get_or a r 0) k) 64

-- all columns are made rows
abbrev pub Transposed : List ℕ → List ℕ → Type 0
Transposed a b = (k : ℕ) → k < 64 → get_or b k 0 ≡ column_of a k
