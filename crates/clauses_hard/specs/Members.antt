-- The members of a set from a number on, by the words that hold it, and the next of them.
-- Assumes nothing.
use Rattle.std.specs.Prelude.{◌≡◌, true, false, ℕ, ◌+◌, ◌-◌, ◌%◌, ◌≤◌, ◌<◌}
use Rattle.model.specs.Sets.{has}

-- `rest` has the members of s from a number on that stand in the number's word of 64, each by how far behind the
-- number it is
pub record Rest (s from rest : ℕ) : Type 0 where
  pub same : (k : ℕ) → k < 64 - from % 64 → has s (from + k) ≡ has rest k
  pub beyond : (k : ℕ) → 64 - from % 64 ≤ k → has rest k ≡ false

-- `next` is the first member of s from a number on, or the end where none is before it
pub record Next (s from end next : ℕ) : Type 0 where
  pub behind : from ≤ next
  pub inside : next ≤ end
  pub member : next < end → has s next ≡ true
  pub between : (k : ℕ) → from ≤ k → k < next → has s k ≡ false

-- the smaller of two numbers
pub record Smaller (a b r : ℕ) : Type 0 where
  pub first : r ≤ a
  pub second : r ≤ b
  pub reached : r < b → r ≡ a
