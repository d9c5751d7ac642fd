-- Where a permission stands in a set of four words of 64 bits.
-- Assumes nothing.
use Rattle.std.specs.Prelude.{◌≡◌, ℕ, ◌+◌, ◌*◌, ◌<◌}

-- permission p is bit `bit` of the word at `place` of the four
pub record Splits (p place bit : ℕ) : Type 0 where
  pub whole : place * 64 + bit ≡ p
  pub inside : place < 4
  pub small : bit < 64
