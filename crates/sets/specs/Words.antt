-- Permission sets in four words of 64 bits.
-- Assumes nothing.
use Rattle.std.specs.Prelude.{◌≡◌, List, map, ℕ, zero, suc, ◌+◌, ◌*◌, ◌^◌, length, get_or}
use Rattle.std.proofs.Common.{Fits}
use Rattle.std.specs.Int.{w64}

-- the number whose digits of w bits are f 0, f 1, .., f (d - 1), the lowest first
unfoldable pub joined : ℕ → (ℕ → ℕ) → ℕ → ℕ
joined w f zero = 0
joined w f (suc d) = f d * 2 ^ (d * w) + joined w f d

-- the set that four words hold: member 64 * i + k is bit k of word i
unfoldable pub value : List ℕ → ℕ
unfolding joined
value ws = joined 64 (λ i. get_or ws i 0) 4

-- a table's rows of four words, as sets
unfoldable pub values : List (List ℕ) → List ℕ
unfolding value
values rows = map value rows

-- a list of four numbers of 64 bits
pub record FourWords (ws : List ℕ) : Type 0 where
  pub long : length ws ≡ 4
  pub fit : (i : ℕ) → Fits w64 (get_or ws i 0)
