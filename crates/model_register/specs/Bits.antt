-- Sets in bytes, as 01 has them: member p is bit p mod 8 of byte p div 8, in a bound and in a past, read and written.
-- Assumes nothing.
use Rattle.std.specs.Prelude.{◌≡◌, true, List, ℕ, ◌*◌, ◌/◌, ◌%◌, ◌<◌, get_or}
use Rattle.std.proofs.Math.Pow.{are_bytes}
use Rattle.model.specs.Sets.{has}
use Rattle.model.specs.Bytes.{number, bytes_of}

pub record BitsAre : Type 0 where
  pub read : (bs : List ℕ) → are_bytes bs ≡ true → (p : ℕ) → has (number bs) p ≡ has (get_or bs (p / 8) 0) (p % 8)
  pub written : (n v p : ℕ) → p < 8 * n → has (get_or (bytes_of n v) (p / 8) 0) (p % 8) ≡ has v p
