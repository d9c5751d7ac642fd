-- The hexadecimal digits of the number that bytes make.
-- Assumes nothing.
use Rattle.std.specs.Prelude.{◌≡◌, List, [], ◌++◌, ℕ, zero, suc, Option, Some, None, ◌<◌, length, get_or, drop}
use Rattle.model.specs.Bytes.{number}
use Rattle.script_text.specs.Writing.{pair_of}

-- both digits of each of the k lowest bytes, the highest first
unfoldable pub pairs_of : ℕ → List ℕ → List ℕ
pairs_of zero bs = []
pairs_of (suc k) bs = pair_of (get_or bs k 0) ++ pairs_of k bs

-- byte k is not zero, and those behind it are
pub record HighestAt (bs : List ℕ) (k : ℕ) : Type 0 where
  pub inside : k < length bs
  pub zeros : number (drop (suc k) bs) ≡ 0
  pub some_byte : 0 < get_or bs k 0

-- the highest byte that is not zero, none where all are zero
abbrev pub Highest : List ℕ → Option ℕ → Type 0
Highest bs None = number bs ≡ 0
Highest bs (Some k) = HighestAt bs k
