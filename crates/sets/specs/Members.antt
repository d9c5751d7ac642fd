-- A member of a role set taken out, and the lowest member.
-- Assumes nothing.
use Rattle.std.specs.Prelude.{◌≡◌, true, ℕ, ◌^◌, ◌<◌}
use Rattle.std.specs.Int.Bits.{bit_xor}
use Rattle.std.specs.Int.Count.{count_trailing_zeros}
use Rattle.model.specs.Sets.{has}

-- s without its member k
unfoldable pub without : ℕ → ℕ → ℕ
without s k = bit_xor s (2 ^ k)

-- the lowest member of a set of numbers below 64; 64 of the empty set
unfoldable pub lowest_of : ℕ → ℕ
lowest_of s = count_trailing_zeros 64 s

-- k is the lowest member of s, a number below 64
pub record Lowest (s k : ℕ) : Type 0 where
  pub same : k ≡ lowest_of s
  pub small : k < 64
  pub member : has s k ≡ true
